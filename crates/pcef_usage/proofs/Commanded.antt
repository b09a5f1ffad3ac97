-- What a command leaves of the counters agrees with the journal.
use Rattle.std.proofs.Common.{◌≡◌, ◌≤◌, ◌∙◌, ℕ, Bool, true, false, List, [], ◌∷◌, refl, sym, ap, map, inl, inr, subst}
use Rattle.std.specs.Prelude.{Some, not, ◌&&◌}
use Rattle.std.specs.List.{AllByRecursion}
use Rattle.std.proofs.lemmas.Bool.{cases_Bool}
use Rattle.pcef_model.specs.declared.command.Command.{Command}
use Rattle.pcef_model.specs.declared.command.Command.TheVariants.{Install, Activate, Remove, Monitor, Stop, ReportNow, Triggers, Notice, LoseBearer, Close, Terminate}
use Rattle.pcef_model.specs.declared.entry.Entry.TheVariants as entry
use Rattle.pcef_model.specs.declared.level.Level.TheVariants.{Rule}
use Rattle.pcef_model.specs.Setting.{Setting, same_name}
use Rattle.pcef_model.specs.Generations.{add_if_some, slots_of}
use Rattle.pcef_model.specs.Commands.{add_key, is_among, key_named}
use Rattle.pcef_model.specs.Entries.{Journal, rows}
use Rattle.pcef_model.specs.Journals.{counted, gen, grant, now, reported, slots, subscribed, tables}
use Rattle.pcef_model.specs.Reports.{plan}
use Rattle.pcef_model.proofs.Growth.{Known, counted_after_command}
use Rattle.pcef_model.proofs.Sameness.{same_name_self}
use Rattle.pcef_usage.specs.declared.usage.KeyState.{KeyState}
use Rattle.pcef_usage.specs.Commands.{Asks, OnAfter, entered, switched_on}
use Rattle.pcef_usage.specs.Keys.{keys_of, slot_place, started, with_slot}
use Rattle.pcef_usage.specs.PendingReports.{AllCount, AllOn, Counts, Distinct, OnIs, ended, settled_states, threshold_reports, states_stopped, after_reports, appended}
use Rattle.pcef_usage.proofs.Endings.{Ended, ending, from_on, keys_all_stopped}
use Rattle.pcef_usage.proofs.Gone.{on_after}
use Rattle.pcef_usage.proofs.Monitors.{monitor_counts, monitor_on, slot_counts, slot_on}
use Rattle.pcef_usage.proofs.Places.{or_more}
use Rattle.pcef_usage.proofs.Planned.{knows_plan}
use Rattle.pcef_model.proofs.Reports.{reported_after_command}
use Rattle.pcef_usage.proofs.Settles.{all_stopped, stopped_if, stopped_is}
use Rattle.pcef_usage.proofs.Slots.{distinct_slots, keys_with_slot}
use Rattle.pcef_usage.proofs.Tells.{all_same, keys_at_place}

-- ---- the keys when a command is given
pub keys_entered : (p : Setting) (j : Journal) (c : Command) (states : List KeyState) → keys_of states ≡ slots p j → keys_of (entered p c states) ≡ slots p (entry.Command c ∷ j)
unfolding slots_of
keys_entered p j (Monitor l amount level) states keys =
    keys_at_place (started amount) (slot_place l (with_slot (Some l) level states)) (with_slot (Some l) level states) (λ s. refl) ∙ keys_with_slot (Some l) level states ∙ ap (add_key l) keys
keys_entered p j (Install rule) states keys = keys_with_slot (key_named p (Install rule)) Rule states ∙ ap (add_if_some (key_named p (Install rule))) keys
keys_entered p j (Activate name) states keys = keys_with_slot (key_named p (Activate name)) Rule states ∙ ap (add_if_some (key_named p (Activate name))) keys
keys_entered p j (Remove name) states keys = keys
keys_entered p j (Stop l) states keys = keys
keys_entered p j (ReportNow l) states keys = keys
keys_entered p j (Triggers set) states keys = keys
keys_entered p j (Notice kind value) states keys = keys
keys_entered p j (LoseBearer id) states keys = keys
keys_entered p j Close states keys = keys
keys_entered p j Terminate states keys = keys

-- ---- what they count
-- only a Monitor grants
abbrev IsNoMonitor : Command → Type 0
IsNoMonitor (Monitor l amount level) = ⊥
IsNoMonitor _ = Unit {0}

grant_same : (j : Journal) (c : Command) (k : List ℕ) → IsNoMonitor c → grant (entry.Command c ∷ j) k ≡ grant j k
unfolding grant
grant_same j (Install rule) k isnt = refl
grant_same j (Activate name) k isnt = refl
grant_same j (Remove name) k isnt = refl
grant_same j (Monitor l amount level) k isnt = absurd isnt
grant_same j (Stop l) k isnt = refl
grant_same j (ReportNow l) k isnt = refl
grant_same j (Triggers set) k isnt = refl
grant_same j (Notice kind value) k isnt = refl
grant_same j (LoseBearer id) k isnt = refl
grant_same j Close k isnt = refl
grant_same j Terminate k isnt = refl

one_counts : (p : Setting) (j : Journal) (c : Command) (s : KeyState) → Known (gen j) (rows j) → IsNoMonitor c → Counts p j [] s → Counts p (entry.Command c ∷ j) [] s
one_counts p j c s known isnt agrees = record {
  grant_is = agrees.grant_is ∙ sym (grant_same j c s.key isnt);
  reported_is = agrees.reported_is ∙ sym (reported_after_command j s.key c);
  counted_is = agrees.counted_is ∙ sym (counted_after_command p j s.key c known);
}

all_count_after : (p : Setting) (j : Journal) (c : Command) (states : List KeyState) → Known (gen j) (rows j) → IsNoMonitor c → AllCount p j [] states →
    AllCount p (entry.Command c ∷ j) [] states
unfolding AllCount
all_count_after p j c states known isnt all = all_same (Counts p j []) (Counts p (entry.Command c ∷ j) []) states (λ s h. one_counts p j c s known isnt h) all

counts_entered : (p : Setting) (j : Journal) (c : Command) (states : List KeyState) → keys_of states ≡ slots p j → Known (gen j) (rows j) →
    ((k : List ℕ) → reported j k ≤ counted p j k) → AllCount p j [] states → AllCount p (entry.Command c ∷ j) [] (entered p c states)
unfolding slots_of
counts_entered p j (Monitor l amount level) states keys known exact all =
    let now_keys : keys_of (with_slot (Some l) level states) ≡ add_key l (slots p j) = keys_with_slot (Some l) level states ∙ ap (add_key l) keys in
    let distinct : Distinct (keys_of (with_slot (Some l) level states)) = subst Distinct (sym now_keys) (distinct_slots p (tables (entry.Command (Monitor l amount level) ∷ j))) in
    monitor_counts p j l amount level (with_slot (Some l) level states) known distinct (slot_counts p j (Some l) level states exact keys all)
counts_entered p j (Install rule) states keys known exact all =
    all_count_after p j (Install rule) (with_slot (key_named p (Install rule)) Rule states) known tt (slot_counts p j (key_named p (Install rule)) Rule states exact keys all)
counts_entered p j (Activate name) states keys known exact all =
    all_count_after p j (Activate name) (with_slot (key_named p (Activate name)) Rule states) known tt (slot_counts p j (key_named p (Activate name)) Rule states exact keys all)
counts_entered p j (Remove name) states keys known exact all = all_count_after p j (Remove name) states known tt all
counts_entered p j (Stop l) states keys known exact all = all_count_after p j (Stop l) states known tt all
counts_entered p j (ReportNow l) states keys known exact all = all_count_after p j (ReportNow l) states known tt all
counts_entered p j (Triggers set) states keys known exact all = all_count_after p j (Triggers set) states known tt all
counts_entered p j (Notice kind value) states keys known exact all = all_count_after p j (Notice kind value) states known tt all
counts_entered p j (LoseBearer id) states keys known exact all = all_count_after p j (LoseBearer id) states known tt all
counts_entered p j Close states keys known exact all = all_count_after p j Close states known tt all
counts_entered p j Terminate states keys known exact all = all_count_after p j Terminate states known tt all

-- ---- which are on
on_entered : (p : Setting) (j : Journal) (c : Command) (states : List KeyState) → keys_of states ≡ slots p j → AllOn p j states →
    AllByRecursion (λ s. s.on ≡ is_among s.key (switched_on c (now p j).on)) (entered p c states)
unfolding slots_of
on_entered p j (Monitor l amount level) states keys all =
    let now_keys : keys_of (with_slot (Some l) level states) ≡ add_key l (slots p j) = keys_with_slot (Some l) level states ∙ ap (add_key l) keys in
    let distinct : Distinct (keys_of (with_slot (Some l) level states)) = subst Distinct (sym now_keys) (distinct_slots p (tables (entry.Command (Monitor l amount level) ∷ j))) in
    monitor_on (now p j).on l amount (with_slot (Some l) level states) distinct (from_on p j (with_slot (Some l) level states) (slot_on p j (Some l) level states keys all))
on_entered p j (Install rule) states keys all = from_on p j (with_slot (key_named p (Install rule)) Rule states) (slot_on p j (key_named p (Install rule)) Rule states keys all)
on_entered p j (Activate name) states keys all = from_on p j (with_slot (key_named p (Activate name)) Rule states) (slot_on p j (key_named p (Activate name)) Rule states keys all)
on_entered p j (Remove name) states keys all = from_on p j states all
on_entered p j (Stop l) states keys all = from_on p j states all
on_entered p j (ReportNow l) states keys all = from_on p j states all
on_entered p j (Triggers set) states keys all = from_on p j states all
on_entered p j (Notice kind value) states keys all = from_on p j states all
on_entered p j (LoseBearer id) states keys all = from_on p j states all
on_entered p j Close states keys all = from_on p j states all
on_entered p j Terminate states keys all = from_on p j states all

and_no : (a : Bool) → (a && not true) ≡ false
and_no true = refl
and_no false = refl

and_yes : (a : Bool) → (a && not false) ≡ a
and_yes true = refl
and_yes false = refl

one_on : (p : Setting) (j : Journal) (c : Command) (s : KeyState) → OnAfter p j c → is_among s.key (slots p (entry.Command c ∷ j)) ≡ true →
    s.on ≡ is_among s.key (switched_on c (now p j).on) → OnIs p (entry.Command c ∷ j) (stopped_if (ended (plan p j c)) s)
one_on p j c s after has is =
    let before : Bool = is_among s.key (switched_on c (now p j).on) in
    elim (cases_Bool (ended (plan p j c) s.key)) [
      | inl ends ↦ rw ends (record { on_is = sym (after s.key has ∙ ap (λ b. is_among s.key (switched_on c (now p j).on) && not b) ends ∙ and_no before) })
      | inr stays ↦ rw stays (record { on_is = is ∙ sym (after s.key has ∙ ap (λ b. is_among s.key (switched_on c (now p j).on) && not b) stays ∙ and_yes before) })
    ]

all_on_after : (p : Setting) (j : Journal) (c : Command) (states : List KeyState) → OnAfter p j c →
    ((k : List ℕ) → is_among k (keys_of states) ≡ true → is_among k (slots p (entry.Command c ∷ j)) ≡ true) →
    AllByRecursion (λ s. s.on ≡ is_among s.key (switched_on c (now p j).on)) states → AllByRecursion (OnIs p (entry.Command c ∷ j)) (map (stopped_if (ended (plan p j c))) states)
all_on_after p j c [] after within all = tt
all_on_after p j c (s ∷ states) after within all = (
  one_on p j c s after (within s.key (rw (same_name_self s.key) refl)) all.0,
  all_on_after p j c states after (λ k has. within k (or_more (same_name k s.key) (is_among k (keys_of states)) has)) all.1,
)

on_stopped : (p : Setting) (j : Journal) (c : Command) (states : List KeyState) → Distinct (keys_of states) → keys_of states ≡ slots p (entry.Command c ∷ j) →
    AllByRecursion (λ s. s.on ≡ is_among s.key (switched_on c (now p j).on)) states → AllOn p (entry.Command c ∷ j) (states_stopped (plan p j c) states)
unfolding AllOn
on_stopped p j c states distinct keys all =
    subst (AllByRecursion (OnIs p (entry.Command c ∷ j))) (sym (stopped_is (plan p j c) states distinct))
    (all_on_after p j c states (on_after p j c) (λ k has. ap (is_among k) (sym keys) ∙ has) all)

-- ---- a command: its keys are entered, the grants that its reports end are taken, these are made, and
-- then the thresholds
pub command_ended : (p : Setting) (j : Journal) (c : Command) (states : List KeyState) (b : Bool) → keys_of states ≡ slots p j → AllCount p j [] states → AllOn p j states →
    Known (gen j) (rows j) → ((k : List ℕ) → reported j k ≤ counted p j k) → Asks p j c → b ≡ (subscribed (entry.Command c ∷ j)).usage_report →
    Ended p (entry.Command c ∷ j) (plan p j c) (states_stopped (plan p j c) (entered p c states))
    (appended (threshold_reports b (after_reports (plan p j c) (states_stopped (plan p j c) (entered p c states))))
    (settled_states b (after_reports (plan p j c) (states_stopped (plan p j c) (entered p c states))))
    (appended (plan p j c) (states_stopped (plan p j c) (entered p c states)) (entry.Command c ∷ j)))
    (after_reports (threshold_reports b (after_reports (plan p j c) (states_stopped (plan p j c) (entered p c states))))
    (settled_states b (after_reports (plan p j c) (states_stopped (plan p j c) (entered p c states)))))
command_ended p j c states b keys counts on known exact asks subscribes =
    let here : List KeyState = entered p c states in
    let has : keys_of here ≡ slots p (entry.Command c ∷ j) = keys_entered p j c states keys in
    let slots_distinct : Distinct (slots p (entry.Command c ∷ j)) = distinct_slots p (tables (entry.Command c ∷ j)) in
    let distinct : Distinct (keys_of here) = subst Distinct (sym has) slots_distinct in
    ending p (entry.Command c ∷ j) (plan p j c) (states_stopped (plan p j c) here) b slots_distinct (keys_all_stopped (plan p j c) here ∙ has) (knows_plan p j c asks)
    (all_stopped p (entry.Command c ∷ j) (plan p j c) here distinct (counts_entered p j c states keys known exact counts))
    (on_stopped p j c here distinct has (on_entered p j c states keys on)) subscribes
