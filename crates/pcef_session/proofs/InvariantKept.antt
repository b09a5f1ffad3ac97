-- A session stays sound as it changes.
use Rattle.std.proofs.Common.{◌+◌, ◌++◌, ◌==◌, ◌||◌, ℕ, filter, set, get_or, inl, inr}
use Rattle.std.specs.List.{list_any}
use Rattle.std.proofs.lemmas.Bool.{cases_Bool}
use Rattle.pcef_model.specs.Entries.{lane}
use Rattle.pcef_model.specs.Journals.{attached}
use Rattle.pcef_model.specs.Refusals.{attach_faults, is_attached, is_close, is_terminate}
use Rattle.pcef_model.proofs.NewLanes.{new_lane}
use Rattle.pcef_model.proofs.JournalExtends.{attached_after_command}
use Rattle.pcef_journal.specs.Lanes.{LanesAgree, just_attached, left}
use Rattle.pcef_journal.proofs.LaneEnds.{attached_came, lanes_come, lanes_first, lanes_leave}
use Rattle.pcef_session.specs.private.Soundness.{ends_met}
use Rattle.pcef_session.proofs.EndsMet.{ends_commanded, ends_first, few_after}
use Rattle.pcef_session.proofs.Leaving.{lanes_commanded}
use Rattle.std.proofs.Common.{◌≡◌, ◌≤◌, ◌<◌, ◌^◌, suc, List, [], ◌∷◌, length, refl, sym, ap, subst, arith, None, Some, true, false}
use Rattle.std.specs.Arc.{arc_value}
use Rattle.std.proofs.lemmas.List.Elements.{All-nil}
use Rattle.std.specs.Prelude.{Option, not}
use Rattle.pcef_base.proofs.Keeping.{filter_length}
use Rattle.pcef_rule.specs.declared.quantity.BearerId.{BearerId}
use Rattle.pcef_model.specs.declared.command.Command.{Command}
use Rattle.pcef_model.specs.declared.entry.Entry.TheVariants as entry
use Rattle.pcef_model.specs.Reports.{after_command}
use Rattle.pcef_usage.specs.Keys.{finds_no_place as slotless, keys_of}
use Rattle.pcef_usage.proofs.Afterwards.{few_entered}
use Rattle.pcef_session.specs.declared.prepared.Activation.{Activation}
use Rattle.pcef_model.specs.Outcomes.{changes}
use Rattle.pcef_session.specs.Preparing.{Activates}
use Rattle.pcef_session.specs.private.Changes.{entered_by, rule_key}
use Rattle.pcef_model.specs.Refusals.{first_of, refusals}
use Rattle.pcef_model.specs.declared.row.Row.{Row}
use Rattle.pcef_model.specs.Setting.{Setting}
use Rattle.pcef_model.specs.Entries.{Journal, commands}
use Rattle.pcef_model.specs.Generations.{at_first as before_all, rules_after, stays}
use Rattle.pcef_model.specs.Commands.{key_named, activated}
use Rattle.pcef_model.specs.Journals.{attach_count, no_triggers, now, slots}
use Rattle.pcef_usage.specs.declared.usage.KeyState.{KeyState}
use Rattle.pcef_session.specs.private.Parts.{Agrees}
use Rattle.pcef_bearer.specs.Standing.{binding_of}
use Rattle.pcef_session.specs.private.Soundness.{IsSound, parts_of}
use Rattle.pcef_model.specs.ProfileModel.{setting_of}
use Rattle.pcef_session.specs.declared.state.SessionState.TheInside.{Inside}
use Rattle.pcef_table.specs.SessionSlots.{no_slots}
use Rattle.pcef_session.proofs.FirstSession.{agrees_attached, agrees_first, agrees_left}
use Rattle.pcef_model.proofs.Acceptance.{activation_accepted, few_put}
use Rattle.pcef_session.proofs.Acceptance.{served_slot}
use Rattle.pcef_session.proofs.Activations.{brought, brought_none}
use Rattle.pcef_model.proofs.RulesAfter.{makes_active, rules_left}
use Rattle.pcef_session.proofs.CommandAgrees.{IsCommanded, agrees_commanded, commands_after, entering, few_keys_after}
use Rattle.pcef_model.proofs.RulesNow.{rules_then}
use Rattle.pcef_session.proofs.KeptRules.{kept_length}
use Rattle.pcef_model.proofs.JournalExtends.{rows_after_command}

-- one fewer is attached
one_fewer : (n : ℕ) (ns : List ℕ) → list_any (λ v. v == n) ns ≡ true → suc (length (filter (λ v. not (v == n)) ns)) ≤ length ns
one_fewer n [] is = absurd cc
one_fewer n (m ∷ ns) is =
    elim (cases_Bool (m == n)) [
      | inl same ↦ rw same (omega (arith, filter_length (λ v. not (v == n)) ns))
      | inr differs ↦ let rest : list_any (λ v. v == n) ns ≡ true = rw differs at is in rw differs (omega (arith, one_fewer n ns rest))
    ]

-- a worker is attached
pub sound_attached : (s t : Inside) (n : ℕ) → IsSound s → n ≡ attach_count s.counted.journal → first_of (attach_faults s.counted.journal) ≡ None → t.profile ≡ s.profile → t.listing ≡ s.listing →
    t.counted.journal ≡ entry.Attach n ∷ s.counted.journal → t.counted.states ≡ s.counted.states → t.active ≡ s.active → t.bearers ≡ s.bearers → t.newest ≡ s.newest → t.subscribed ≡ s.subscribed →
    t.lanes ≡ s.lanes ++ just_attached ∷ [] → t.closed ≡ s.closed → t.terminated ≡ s.terminated → suc (length (attached s.counted.journal)) ≤ t.counted.room → IsSound t
unfolding attached
sound_attached s t n sound number accepted profile listing journal states active bearers table subscribed lanes closed terminated room =
    let p : Setting = setting_of s.profile s.listing in
    let q : Setting = setting_of t.profile t.listing in
    let j : Journal = s.counted.journal in
    let same : q ≡ p = rw (profile, listing) refl in
    let parts : parts_of t ≡ parts_of s = rw (states, active, bearers, table, subscribed) refl in
    let count : entry.Attach n ∷ j ≡ entry.Attach (attach_count j) ∷ j = ap (λ m. entry.Attach m ∷ j) number in
    let after : Agrees p (entry.Attach n ∷ j) (parts_of s) =
    subst (λ (k : Journal). Agrees p k (parts_of s)) (sym count) (agrees_attached p j (parts_of s) sound.agrees accepted) in
    let none : lane j n ≡ [] = subst (λ m. lane j m ≡ []) (sym number) (new_lane p j sound.agrees.lawful) in
    let come : LanesAgree (entry.Attach n ∷ j) (s.lanes ++ just_attached ∷ []) = lanes_come j n s.lanes number none sound.lanes in
    record {
      agrees = rw (same, parts, journal) after;
      lanes = rw (journal, lanes) come;
      ends = rw (journal, closed, terminated) (record { closed_is = sound.ends.closed_is; terminated_is = sound.ends.terminated_is });
      leaving = rw journal room;
      limited = record {
        few_commands = rw (journal, profile, closed, terminated) sound.limited.few_commands;
        most_commands = rw profile sound.limited.most_commands;
        few_rows = rw (journal, profile) sound.limited.few_rows;
        most_rows = rw profile sound.limited.most_rows;
        octets = rw journal sound.limited.octets;
      };
      small = record { few_rules = rw active sound.small.few_rules; few_keys = rw states sound.small.few_keys };
    }

-- a worker leaves
pub sound_left : (s t : Inside) (n : ℕ) → IsSound s → is_attached s.counted.journal n ≡ true → t.profile ≡ s.profile → t.listing ≡ s.listing →
    t.counted.journal ≡ entry.Leave n ∷ s.counted.journal → t.counted.states ≡ s.counted.states → t.active ≡ s.active → t.bearers ≡ s.bearers → t.newest ≡ s.newest → t.subscribed ≡ s.subscribed →
    t.lanes ≡ set s.lanes n (left (get_or s.lanes n just_attached)) → t.closed ≡ s.closed → t.terminated ≡ s.terminated → s.counted.room ≤ t.counted.room + 1 → IsSound t
unfolding attached
sound_left s t n sound is profile listing journal states active bearers table subscribed lanes closed terminated room =
    let p : Setting = setting_of s.profile s.listing in
    let q : Setting = setting_of t.profile t.listing in
    let j : Journal = s.counted.journal in
    let same : q ≡ p = rw (profile, listing) refl in
    let parts : parts_of t ≡ parts_of s = rw (states, active, bearers, table, subscribed) refl in
    let after : Agrees p (entry.Leave n ∷ j) (parts_of s) = agrees_left p j n (parts_of s) sound.agrees is in
    let left_lanes : LanesAgree (entry.Leave n ∷ j) (set s.lanes n (left (get_or s.lanes n just_attached))) =
    lanes_leave j n s.lanes (attached_came j s.lanes n sound.lanes is) sound.lanes in
    let fewer : suc (length (filter (λ v. not (v == n)) (attached j))) ≤ length (attached j) = one_fewer n (attached j) is in
    record {
      agrees = rw (same, parts, journal) after;
      lanes = rw (journal, lanes) left_lanes;
      ends = rw (journal, closed, terminated) (record { closed_is = sound.ends.closed_is; terminated_is = sound.ends.terminated_is });
      leaving = rw journal (omega (arith, fewer, room, sound.leaving));
      limited = record {
        few_commands = rw (journal, profile, closed, terminated) sound.limited.few_commands;
        most_commands = rw profile sound.limited.most_commands;
        few_rows = rw (journal, profile) sound.limited.few_rows;
        most_rows = rw profile sound.limited.most_rows;
        octets = rw journal sound.limited.octets;
      };
      small = record { few_rules = rw active sound.small.few_rules; few_keys = rw states sound.small.few_keys };
    }

-- a session that is opened
pub sound_opened : (s : Inside) → s.counted.journal ≡ [] → s.counted.states ≡ [] → s.active.rules ≡ [] → s.bearers ≡ binding_of (setting_of s.profile s.listing) before_all →
    (arc_value s.newest).number ≡ 0 → (arc_value s.newest).entries ≡ [] → (arc_value s.newest).session ≡ no_slots → s.subscribed ≡ no_triggers → s.lanes ≡ [] → s.closed ≡ false → s.terminated ≡ false → s.profile.commands ≤ 1000000 →
    s.profile.rows ≤ 4294967295 → IsSound s
unfolding attached
sound_opened s journal states active bearers number entries flags subscribed lanes closed terminated most_commands most_rows =
    let p : Setting = setting_of s.profile s.listing in
    record {
      agrees = rw journal (agrees_first p (parts_of s) active bearers states subscribed number entries flags);
      lanes = rw (journal, lanes) lanes_first;
      ends = rw (journal, closed, terminated) ends_first;
      leaving = rw journal (omega arith);
      limited = record {
        few_commands = rw journal (omega arith);
        most_commands = most_commands;
        few_rows = rw journal (omega arith);
        most_rows = most_rows;
        octets = rw journal (All-nil (λ (r : Row). r.header.octets < 2 ^ 32));
      };
      small = record { few_rules = rw active (omega arith); few_keys = rw states (omega arith) };
    }

-- a command is done
few_rules_after : (p : Setting) (j : Journal) (c : Command) (x : Option Activation) → first_of (refusals p j c) ≡ None → changes p j c ≡ true → Activates p (activated p c) x →
    length (now p j).rules ≤ 64 → length (rules_after p (now p j) c) ≤ 64
few_rules_after p j c None accepted changing brings few =
    omega (arith, few, filter_length (stays (now p j) c) (now p j).rules, ap length (rules_left p (now p j) c (brought_none p c None refl brings)))
few_rules_after p j c (Some x) accepted changing brings few =
    let b = brought p c (Some x) x refl brings in
    let same = ap length ((makes_active p c b.rule b.becomes).rules_are (now p j)) in
    omega (arith, same, few_put p j b.rule few (activation_accepted p j c b.rule accepted changing b.becomes))

pub sound_commanded : (s t : Inside) (c : Command) (x : Option Activation) (bearer : Option BearerId) → IsSound s → IsCommanded (setting_of s.profile s.listing) s.counted.journal c x (parts_of s) (parts_of t) bearer →
    t.profile ≡ s.profile → t.listing ≡ s.listing → t.lanes ≡ s.lanes → t.closed ≡ (is_close (entry.Command c) || s.closed) → t.terminated ≡ (is_terminate (entry.Command c) || s.terminated) →
    length (attached s.counted.journal) ≤ t.counted.room → t.counted.journal ≡ after_command (setting_of s.profile s.listing) s.counted.journal c → IsSound t
sound_commanded s t c x bearer sound is profile listing lanes closed terminated room journal =
    let p : Setting = setting_of s.profile s.listing in
    let q : Setting = setting_of t.profile t.listing in
    let j : Journal = s.counted.journal in
    let same : q ≡ p = rw (profile, listing) refl in
    let agrees : Agrees p (after_command p j c) (parts_of t) = agrees_commanded p j c x (parts_of s) (parts_of t) bearer sound.agrees is in
    let budget : suc (length (commands j)) ≤ s.profile.commands + ends_met (is_close (entry.Command c) || s.closed) (is_terminate (entry.Command c) || s.terminated) =
    few_after p j c s.closed s.terminated sound.ends is.accepted sound.limited.few_commands in
    let slot : slotless (key_named p c) s.counted.states ≡ false = served_slot p j c s.counted.states sound.agrees.keys_are is.accepted is.changing in
    let before : length (now p j).rules ≤ 64 = omega (arith, sound.small.few_rules, kept_length s.listing s.active.rules (now p j).rules sound.agrees.rules_are) in
    let after_rules : (now p (after_command p j c)).rules ≡ rules_after p (now p j) c = rules_then p j c in
    let few : length (rules_after p (now p j) c) ≤ 64 = few_rules_after p j c x is.accepted is.changing is.brings before in
    let kept : length t.active.rules ≡ length (now p (after_command p j c)).rules = kept_length p.catalog t.active.rules (now p (after_command p j c)).rules agrees.rules_are in
    let many : length (commands (after_command p j c)) ≡ suc (length (commands j)) = ap length (commands_after p j c) in
    record {
      agrees = rw (same, journal) agrees;
      lanes = rw (journal, lanes) (lanes_commanded p j c s.lanes sound.lanes);
      ends = rw (journal, closed, terminated) (ends_commanded p j c s.closed s.terminated sound.ends);
      leaving = rw (journal, attached_after_command p j c) room;
      limited = record {
        few_commands = rw (journal, profile, closed, terminated) (omega (arith, budget, many));
        most_commands = rw profile sound.limited.most_commands;
        few_rows = rw (journal, profile, rows_after_command p j c) sound.limited.few_rows;
        most_rows = rw profile sound.limited.most_rows;
        octets = rw (journal, rows_after_command p j c) sound.limited.octets;
      };
      small = record {
        few_rules = omega (arith, few, kept, ap length after_rules);
        few_keys = few_keys_after p j c t.counted.states s.counted.states sound.agrees.keys_are agrees.keys_are slot sound.small.few_keys;
      };
    }

pub few_entered_by : (p : Setting) (j : Journal) (c : Command) (x : Option Activation) (states : List KeyState) → keys_of states ≡ slots p j → first_of (refusals p j c) ≡ None →
    changes p j c ≡ true → Activates p (activated p c) x → length states ≤ 8 → length (entered_by (rule_key x) c states) ≤ 8
few_entered_by p j c x states keys accepted changing brings few =
    let fits = few_entered p c states (served_slot p j c states keys accepted changing) few in
    omega (arith, fits, ap (λ (ss : List KeyState). length ss) (entering p c x states brings))
