-- A session that has taken rows over agrees with the journal after them.
use Rattle.std.proofs.Common.{◌≡◌, ◌∙◌, ◌≤◌, ◌<◌, ◌+◌, ◌*◌, ◌^◌, ℕ, suc, zero, Bool, List, [], ◌∷◌, length, refl, sym, ap, subst, arith, inl, inr, map, Some, None, All, not, nat_lt, get_or}
use Rattle.std.specs.List.{AllByRecursion}
use Rattle.std.specs.Option.{option_map_or}
use Rattle.std.specs.Prelude.{false, slice_get}
use Rattle.std.proofs.lemmas.Bool.{cases_Bool, ltb-false}
use Rattle.std.proofs.lemmas.List.{length-map}
use Rattle.std.proofs.lemmas.List.Elements.{All-cons, All-head, All-nil, All-tail, recursion_from_All}
use Rattle.pcef_rule.specs.declared.quantity.Slot.{Slot}
use Rattle.pcef_model.specs.declared.entry.Entry.TheVariants as entry
use Rattle.pcef_model.specs.declared.row.Row.{Row}
use Rattle.pcef_model.specs.Setting.{Setting}
use Rattle.pcef_model.specs.Generations.{made_by, slots_of}
use Rattle.pcef_model.specs.Entries.{Journal, commands, rows}
use Rattle.pcef_model.specs.Journals.{counts, gen, level_of, now, octets_of, slots, subscribed, tables}
use Rattle.pcef_model.specs.Reports.{after_flush, thresholds, with_rows}
use Rattle.pcef_usage.specs.declared.usage.KeyState.{KeyState}
use Rattle.pcef_usage.specs.Flushes.{rows_counted}
use Rattle.pcef_usage.specs.Keys.{keys_of, levels_of, state_at, with_octets}
use Rattle.pcef_usage.specs.Counted.{Counted}
use Rattle.pcef_usage.specs.PendingReports.{settled_states, threshold_reports, after_reports, appended}
use Rattle.pcef_model.proofs.AfterEvents.{subscribed_settled}
use Rattle.pcef_usage.proofs.Endings.{Ended}
use Rattle.pcef_usage.proofs.Flushed.{StatesAgree, can_count, flush_is, row_agrees, rows_ended, subscribed_after_rows}
use Rattle.pcef_usage.proofs.Rows as usage
use Rattle.pcef_session.specs.declared.batch.Item.{Item}
use Rattle.pcef_session.specs.private.Parts.{Agrees, Parts}
use Rattle.pcef_session.specs.Agreement.{KeyAgrees}
use Rattle.pcef_session.specs.private.TakenRows.{CanCountAll, IsTaken}
use Rattle.pcef_session.specs.Following.{HasItsSlots, HasSmallRows, row_of, row_slots}
use Rattle.pcef_model.specs.Slots.{AreSlotsBelow, CountsFor}
use Rattle.pcef_model.proofs.SlotsOf.{slot_is, slots_below}
use Rattle.pcef_bearer.specs.Standing.{binding_of}
use Rattle.pcef_model.specs.Lawful.{BatchFollows, Lawful, by_flush}
use Rattle.pcef_model.specs.declared.trigger.TriggerSet.{TriggerSet}
use Rattle.pcef_model.specs.declared.answer.FlushRefusal.TheVariants as flush
use Rattle.pcef_session.specs.declared.state.SessionState.TheInside.{Inside}
use Rattle.pcef_model.specs.Refusals.{first_of, flush_refusals, is_attached}
use Rattle.pcef_session.specs.private.Soundness.{IsSound, parts_of}
use Rattle.pcef_model.specs.ProfileModel.{setting_of}
use Rattle.pcef_model.proofs.Acceptance.{condition_none}
use Rattle.pcef_model.specs.Journals.{attached}
use Rattle.pcef_model.proofs.JournalExtends.{attached_after_flush}
use Rattle.pcef_journal.proofs.LaneEnds.{attached_came}
use Rattle.pcef_session.proofs.EndsMet.{ends_flushed}
use Rattle.pcef_session.proofs.Leaving.{attached_accepted, commands_with, lanes_flushed}
use Rattle.pcef_model.proofs.LawfulRows.{rows_with}
use Rattle.pcef_session.specs.private.TakenRows.{with_lane}
use Rattle.pcef_session.specs.Shown.{Shows}
use Rattle.pcef_session.proofs.CommandAgrees.{all_agree, commands_told}
use Rattle.pcef_session.proofs.NextTables.{all_count_from, all_levels_from, all_on_from}
use Rattle.pcef_usage.proofs.Levels.{all_levels, levels_from, levels_rows_counted, levels_settled, levels_told}
use Rattle.pcef_model.specs.declared.command.Command.{Command}
use Rattle.pcef_session.proofs.ShownLater.{shows_same}
use Rattle.pcef_model.proofs.JournalExtends.{rows_after_flush, tables_after_flush}

-- ---- slots and the keys that have them
-- a key stands at its place
key_here : (states : List KeyState) (n : ℕ) → n < length states → slice_get (keys_of states) n ≡ Some (state_at n states).key
key_here [] n within = absurd (omega (arith, within))
key_here (s ∷ states) zero within = refl
key_here (s ∷ states) (suc n) within = key_here states n (omega (arith, within))

-- a row counts for the keys of its slots, by the counters
counts_here : (p : Setting) (j : Journal) (r : Row) (own : List Slot) (states : List KeyState) → keys_of states ≡ slots p j → CountsFor p j r own → usage.CountsFor p j r states own
counts_here p j r own states keys are =
    let many : length (slots p j) ≡ length states = sym (ap length keys) ∙ length-map states (λ s. s.key) in
    let test : List ℕ → Bool = λ key. counts p j key r in (
      subst (λ n. AreSlotsBelow n own) many (slots_below (slots p j) test own are),
      λ n inside. sym (slot_is (slots p j) test own n are
          ∙ ap (λ o. option_map_or test o false) (ap (λ ks. slice_get ks n) (sym keys) ∙ key_here states n inside)),
    )

-- ---- octets that fit
bounded : (test : Row → Bool) (rs : List Row) → All (λ (r : Row). r.header.octets < 2 ^ 32) rs → octets_of test rs ≤ length rs * 4294967295
unfolding octets_of
bounded test [] small = omega arith
bounded test (r ∷ rs) small =
    let here : r.header.octets < 4294967296 = All-head (λ (x : Row). x.header.octets < 2 ^ 32) r rs small in
    let rest = bounded test rs (All-tail (λ (x : Row). x.header.octets < 2 ^ 32) r rs small) in
    elim (cases_Bool (test r)) [ inl is ↦ rw is (omega (arith, here, rest)) | inr isnt ↦ rw isnt (omega (arith, rest)) ]

pub can_count_all : (p : Setting) (j : Journal) (items : List Item) (states : List KeyState) → StatesAgree p j states → HasItsSlots p j items → HasSmallRows items →
    All (λ (r : Row). r.header.octets < 2 ^ 32) (rows j) → length (rows j) + length items ≤ 4294967295 → CanCountAll items states
can_count_all p j [] states agrees its small old few = tt
can_count_all p j (i ∷ items) states agrees its small old few =
    let here = All-head (λ (x : Item). CountsFor p j x.row x.slots.items) i items its in
    let fits : i.row.header.octets < 4294967296 = All-head (λ (x : Item). x.row.header.octets < 2 ^ 32) i items small in
    let which = counts_here p j i.row i.slots.items states agrees.keys_are here in (
      can_count p j i.row i.slots.items states which agrees.counts (λ key.
          let most = bounded (counts p j key) (rows j) old in omega (arith, most, fits, few)),
      can_count_all p (entry.Row i.row ∷ j) items (with_octets i.slots.items i.row.header.octets states) (row_agrees p j i.row i.slots.items states which agrees)
          (All-tail (λ (x : Item). CountsFor p j x.row x.slots.items) i items its) (All-tail (λ (x : Item). x.row.header.octets < 2 ^ 32) i items small)
          (All-cons (λ (x : Row). x.header.octets < 2 ^ 32) i.row (rows j) fits old) (omega (arith, few)),
    )

-- ---- the journal after rows
pub subscribed_flushed : (p : Setting) (j : Journal) (rs : List Row) → subscribed (after_flush p j rs) ≡ subscribed j
subscribed_flushed p j [] = refl
subscribed_flushed p j (r ∷ rs) = subscribed_settled p (with_rows (r ∷ rs) j) ∙ subscribed_after_rows (r ∷ rs) j

-- ---- what is kept
pub record IsFlushed (p : Setting) (j : Journal) (worker : ℕ) (items : List Item) (old new : Parts) (after : Journal) : Type 0 where
  pub accepted : first_of (flush_refusals p j worker (length (map row_of items))) ≡ None
  pub follow : BatchFollows p j worker (map row_of items)
  pub its : HasItsSlots p j items
  pub rules_are : new.rules ≡ old.rules
  pub binding_is : new.binding ≡ old.binding
  pub triggers_are : new.triggers ≡ old.triggers
  pub table_is : new.table ≡ old.table

pub states_agree : (p : Setting) (j : Journal) (parts : Parts) → Agrees p j parts → StatesAgree p j parts.keys
states_agree p j parts agrees = record {
  keys_are = agrees.keys_are;
  counts = all_count_from p j parts.keys agrees.usage_is;
  on = all_on_from p j parts.keys agrees.usage_is;
}

-- the counters and the journal after rows
record AreCounted (p : Setting) (j : Journal) (rs : List Row) (keys : List KeyState) (after : Journal) : Type 0 where
  journal_is : after ≡ after_flush p j rs
  keys_are : keys_of keys ≡ slots p after
  agree : AllByRecursion (KeyAgrees p after) keys

are_counted : (p : Setting) (j : Journal) (items : List Item) (b : Bool) (old new : Counted) → StatesAgree p j old.states → AllByRecursion (λ s. s.level ≡ level_of (now p j) s.key) old.states → old.journal ≡ j → b ≡ (subscribed j).usage_report → HasItsSlots p j items →
    IsTaken b items old new → AreCounted p j (map row_of items) new.states new.journal
are_counted p j [] b old new agrees levels is subscribes its taken =
    let same : new.journal ≡ j = taken.0 ∙ is in
    record {
      journal_is = same;
      keys_are = ap keys_of taken.1 ∙ agrees.keys_are ∙ ap (slots p) (sym same);
      agree = subst (λ (k : Journal). AllByRecursion (KeyAgrees p k) new.states) (sym same)
          (subst (AllByRecursion (KeyAgrees p j)) (sym taken.1) (all_agree p j old.states agrees.counts agrees.on levels));
    }
are_counted p j (i ∷ items) b old new agrees levels is subscribes its taken =
    let which : AllByRecursion (λ (x : Item). usage.CountsFor p j x.row old.states x.slots.items) (i ∷ items) =
    recursion_from_All (λ (x : Item). usage.CountsFor p j x.row old.states x.slots.items) (i ∷ items)
    (λ n x within. let its_n = its n x within in counts_here p j (get_or (i ∷ items) n x).row (get_or (i ∷ items) n x).slots.items old.states agrees.keys_are its_n) in
    let ended = rows_ended row_of row_slots p j (i ∷ items) old.states b agrees.keys_are agrees.counts agrees.on which subscribes in
    let left : List KeyState = after_reports (threshold_reports b (rows_counted row_of row_slots (i ∷ items) old.states)) (settled_states b (rows_counted row_of row_slots (i ∷ items) old.states)) in
    let end : Journal = appended (threshold_reports b (rows_counted row_of row_slots (i ∷ items) old.states)) (settled_states b (rows_counted row_of row_slots (i ∷ items) old.states))
    (with_rows (map row_of (i ∷ items)) j) in
    let same : new.journal ≡ end = taken.journal ∙
    ap (λ (k : Journal). appended (threshold_reports b (rows_counted row_of row_slots (i ∷ items) old.states)) (settled_states b (rows_counted row_of row_slots (i ∷ items) old.states))
    (with_rows (map row_of (i ∷ items)) k)) is in
    let end_tables : tables end ≡ tables j =
    ap tables (flush_is p j end i.row (map row_of items) (rows_counted row_of row_slots (i ∷ items) old.states) left ended) ∙ tables_after_flush p j (map row_of (i ∷ items)) in
    let levels_are : levels_of left ≡ levels_of old.states =
    levels_told (threshold_reports b (rows_counted row_of row_slots (i ∷ items) old.states)) (settled_states b (rows_counted row_of row_slots (i ∷ items) old.states))
    ∙ levels_settled b (rows_counted row_of row_slots (i ∷ items) old.states) ∙ levels_rows_counted row_of row_slots (i ∷ items) old.states in
    let left_keys : keys_of left ≡ keys_of old.states = ended.keys_are ∙ ap (slots_of p) end_tables ∙ sym agrees.keys_are in
    let end_levels : AllByRecursion (λ (s : KeyState). s.level ≡ level_of (now p end) s.key) left =
    subst (λ (cs : List Command). AllByRecursion (λ (s : KeyState). s.level ≡ level_of (made_by p cs) s.key) left) (sym end_tables)
    (all_levels (now p j) left (levels_are ∙ levels_from (now p j) old.states levels ∙ ap (map (level_of (now p j))) (sym left_keys))) in
    record {
      journal_is = flush_is p j new.journal i.row (map row_of items) (rows_counted row_of row_slots (i ∷ items) old.states) left
          (subst (λ (k : Journal). Ended p (with_rows (map row_of (i ∷ items)) j) [] (rows_counted row_of row_slots (i ∷ items) old.states) k left) (sym same) ended);
      keys_are = ap keys_of taken.states ∙ ended.keys_are ∙ ap (slots p) (sym same);
      agree = subst (λ (k : Journal). AllByRecursion (KeyAgrees p k) new.states) (sym same)
          (subst (AllByRecursion (KeyAgrees p end)) (sym taken.states) (all_agree p end left ended.counts ended.on end_levels));
    }

pub flushed_journal : (p : Setting) (j : Journal) (items : List Item) (parts : Parts) (old new : Counted) → Agrees p j parts → old.states ≡ parts.keys → old.journal ≡ j → HasItsSlots p j items →
    IsTaken parts.triggers.usage_report items old new → new.journal ≡ after_flush p j (map row_of items)
flushed_journal p j items parts old new agrees keys is its taken =
    (are_counted p j items parts.triggers.usage_report old new (subst (StatesAgree p j) (sym keys) (states_agree p j parts agrees)) (subst (AllByRecursion (λ (s : KeyState). s.level ≡ level_of (now p j) s.key)) (sym keys) (all_levels_from p j parts.keys agrees.usage_is)) is (ap (λ (t : TriggerSet). t.usage_report) agrees.triggers_are) its taken).journal_is

pub agrees_flushed : (p : Setting) (j : Journal) (worker : ℕ) (items : List Item) (parts new : Parts) (before after : Counted) → Agrees p j parts → before.states ≡ parts.keys → before.journal ≡ j →
    after.states ≡ new.keys → IsTaken parts.triggers.usage_report items before after → IsFlushed p j worker items parts new after.journal → Agrees p after.journal new
agrees_flushed p j worker items parts new before after agrees keys is left taken flushed =
    let done = are_counted p j items parts.triggers.usage_report before after (subst (StatesAgree p j) (sym keys) (states_agree p j parts agrees)) (subst (AllByRecursion (λ (s : KeyState). s.level ≡ level_of (now p j) s.key)) (sym keys) (all_levels_from p j parts.keys agrees.usage_is)) is (ap (λ (t : TriggerSet). t.usage_report) agrees.triggers_are) flushed.its taken in
    let same : tables after.journal ≡ tables j = ap tables done.journal_is ∙ tables_after_flush p j (map row_of items) in
    let generation : now p after.journal ≡ now p j = ap (made_by p) same in
    record {
      lawful = subst (Lawful p) (sym done.journal_is) (by_flush j worker (map row_of items) agrees.lawful flushed.accepted flushed.follow);
      rules_are = rw (flushed.rules_are, generation) agrees.rules_are;
      binding_is = flushed.binding_is ∙ agrees.binding_is ∙ ap (binding_of p) (sym generation);
      keys_are = ap keys_of (sym left) ∙ done.keys_are;
      usage_is = subst (AllByRecursion (KeyAgrees p after.journal)) left done.agree;
      triggers_are = flushed.triggers_are ∙ agrees.triggers_are ∙ sym (ap subscribed done.journal_is ∙ subscribed_flushed p j (map row_of items));
      table_shows = subst (λ n. Shows p after.journal n new.table) (sym (ap length same))
          (shows_same p j after.journal (gen j) new.table same (subst (Shows p j (gen j)) (sym flushed.table_is) agrees.table_shows));
    }

-- ---- a session stays sound
commands_flushed : (p : Setting) (j : Journal) (rs : List Row) → commands (after_flush p j rs) ≡ commands j
commands_flushed p j [] = refl
commands_flushed p j (r ∷ rs) = commands_told p (thresholds p (with_rows (r ∷ rs) j)) (with_rows (r ∷ rs) j) ∙ commands_with j (r ∷ rs)

small_with : (rs : List Row) (j : Journal) → All (λ (r : Row). r.header.octets < 2 ^ 32) rs → All (λ (r : Row). r.header.octets < 2 ^ 32) (rows j) → All (λ (r : Row). r.header.octets < 2 ^ 32) (rows (with_rows rs j))
unfolding with_rows
small_with [] j new old = old
small_with (r ∷ rs) j new old =
    small_with rs (entry.Row r ∷ j) (All-tail (λ (x : Row). x.header.octets < 2 ^ 32) r rs new)
    (All-cons (λ (x : Row). x.header.octets < 2 ^ 32) r (rows j) (All-head (λ (x : Row). x.header.octets < 2 ^ 32) r rs new) old)

small_rows : (items : List Item) → HasSmallRows items → All (λ (r : Row). r.header.octets < 2 ^ 32) (map row_of items)
small_rows [] small = All-nil (λ (r : Row). r.header.octets < 2 ^ 32)
small_rows (i ∷ items) small =
    All-cons (λ (r : Row). r.header.octets < 2 ^ 32) i.row (map row_of items) (All-head (λ (x : Item). x.row.header.octets < 2 ^ 32) i items small)
    (small_rows items (All-tail (λ (x : Item). x.row.header.octets < 2 ^ 32) i items small))

-- rows that are accepted are within the profile's number
pub within_rows : (p : Setting) (j : Journal) (worker count : ℕ) → first_of (flush_refusals p j worker count) ≡ None → length (rows j) + count ≤ p.rows
within_rows p j worker count accepted =
    let first = condition_none (not (is_attached j worker)) flush.NotAttached ((nat_lt p.rows (length (rows j) + count), flush.RowsFull) ∷ []) accepted in
    let second = condition_none (nat_lt p.rows (length (rows j) + count)) flush.RowsFull [] first.1 in
    ltb-false p.rows (length (rows j) + count) second.0

pub sound_flushed : (s t : Inside) (worker : ℕ) (items : List Item) (before : Counted) → IsSound s → first_of (flush_refusals (setting_of s.profile s.listing) s.counted.journal worker (length items)) ≡ None →
    BatchFollows (setting_of s.profile s.listing) s.counted.journal worker (map row_of items) → HasItsSlots (setting_of s.profile s.listing) s.counted.journal items → HasSmallRows items →
    before.states ≡ s.counted.states → before.journal ≡ s.counted.journal → IsTaken s.subscribed.usage_report items before t.counted → t.profile ≡ s.profile → t.listing ≡ s.listing → t.active ≡ s.active →
    t.bearers ≡ s.bearers → t.newest ≡ s.newest → t.subscribed ≡ s.subscribed →
    t.lanes ≡ with_lane worker (map row_of items) s.lanes → t.closed ≡ s.closed → t.terminated ≡ s.terminated → length (attached s.counted.journal) ≤ t.counted.room → IsSound t
sound_flushed s t worker items before sound accepted follow its small states_are journal_is taken profile listing active bearers table subscribed_is lanes closed terminated room =
    let p : Setting = setting_of s.profile s.listing in
    let q : Setting = setting_of t.profile t.listing in
    let j : Journal = s.counted.journal in
    let rs : List Row = map row_of items in
    let count : length rs ≡ length items = length-map items row_of in
    let same : q ≡ p = rw (profile, listing) refl in
    let flushed : IsFlushed p j worker items (parts_of s) (parts_of t) t.counted.journal = record {
      accepted = ap (λ n. first_of (flush_refusals p j worker n)) count ∙ accepted;
      follow = follow;
      its = its;
      rules_are = rw active refl;
      binding_is = bearers;
      triggers_are = subscribed_is;
      table_is = rw table refl;
    } in
    let agrees : Agrees p t.counted.journal (parts_of t) = agrees_flushed p j worker items (parts_of s) (parts_of t) before t.counted sound.agrees states_are journal_is refl taken flushed in
    let after : t.counted.journal ≡ after_flush p j rs = flushed_journal p j items (parts_of s) before t.counted sound.agrees states_are journal_is its taken in
    let row_count : length (rows t.counted.journal) ≡ length items + length (rows j) = ap (λ (k : Journal). length (rows k)) after ∙ ap length (rows_after_flush p j rs) ∙ rows_with j rs ∙ ap (λ n. n + length (rows j)) count in
    let within = within_rows p j worker (length items) accepted in
    let came : worker < length s.lanes = attached_came j s.lanes worker sound.lanes (attached_accepted p j worker (length items) (sym accepted)) in
    let keys_same : length (keys_of t.counted.states) ≡ length (keys_of s.counted.states) =
    ap length (agrees.keys_are ∙ ap (slots_of p) (ap tables after ∙ tables_after_flush p j rs) ∙ sym sound.agrees.keys_are) in
    record {
      agrees = rw same agrees;
      lanes = rw (after, lanes) (lanes_flushed p j worker rs s.lanes came follow.own sound.lanes);
      ends = rw (after, closed, terminated) (ends_flushed p j rs s.closed s.terminated sound.ends);
      leaving = rw (after, attached_after_flush p j rs) room;
      limited = record {
        few_commands = rw (after, profile, closed, terminated, commands_flushed p j rs) sound.limited.few_commands;
        most_commands = rw profile sound.limited.most_commands;
        few_rows = rw profile (omega (arith, row_count, within));
        most_rows = rw profile sound.limited.most_rows;
        octets = rw (after, rows_after_flush p j rs) (small_with rs j (small_rows items small) sound.limited.octets);
      };
      small = record {
        few_rules = rw active sound.small.few_rules;
        few_keys = omega (arith, keys_same, length-map t.counted.states (λ s. s.key), length-map s.counted.states (λ s. s.key), sound.small.few_keys);
      };
    }
