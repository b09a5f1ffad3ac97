-- What a flush leaves of the counters agrees with the journal.
use Rattle.std.proofs.Common.{◌≡◌, ◌<◌, ◌+◌, ◌^◌, ◌∙◌, ℕ, Bool, List, [], ◌∷◌, length, refl, sym, ap, map, subst, arith}
use Rattle.std.specs.List.{AllByRecursion}
use Rattle.pcef_rule.specs.declared.quantity.Slot.{Slot}
use Rattle.pcef_model.specs.declared.entry.Entry.TheVariants as entry
use Rattle.pcef_model.specs.declared.row.Row.{Row}
use Rattle.pcef_model.specs.declared.trigger.TriggerSet.{TriggerSet}
use Rattle.pcef_model.specs.Setting.{Setting}
use Rattle.pcef_model.specs.Entries.{Journal}
use Rattle.pcef_model.specs.Journals.{counted, counts, slots, subscribed, tables}
use Rattle.pcef_model.specs.Slots.{AreSlotsBelow}
use Rattle.pcef_model.specs.Reports.{after_flush, with_reports, with_rows}
use Rattle.pcef_usage.specs.declared.usage.KeyState.{KeyState}
use Rattle.pcef_usage.specs.Flushes.{rows_counted}
use Rattle.pcef_usage.specs.Keys.{CanCount, FitsMore, keys_of, state_at, with_octets}
use Rattle.pcef_usage.specs.PendingReports.{AllCount, AllOn, Counts, KnowsAll, settled_states, threshold_reports, after_reports, appended}
use Rattle.pcef_usage.proofs.Endings.{Ended, ending}
use Rattle.pcef_usage.proofs.Loops.{many, same_key_at}
use Rattle.pcef_usage.proofs.Places.{all_state_at}
use Rattle.pcef_usage.proofs.Rows.{CountsFor, all_on_row_counted, keys_row_counted, row_counted}
use Rattle.pcef_usage.proofs.Slots.{distinct_slots}
use Rattle.pcef_usage.proofs.Tells.{all_same}

-- the counters agree with the journal
pub record StatesAgree (p : Setting) (j : Journal) (states : List KeyState) : Type 0 where
  pub keys_are : keys_of states ≡ slots p j
  pub counts : AllCount p j [] states
  pub on : AllOn p j states

-- ---- one row
-- which slots a row counts for stays as rows are counted
pub counts_for_later : (p : Setting) (j : Journal) (r before : Row) (own : List Slot) (states left : List KeyState) → keys_of left ≡ keys_of states →
    CountsFor p j r states own → CountsFor p (entry.Row before ∷ j) r left own
counts_for_later p j r before own states left keys which =
    let same : length left ≡ length states = many left states keys in (
      subst (λ n. AreSlotsBelow n own) (sym same) which.0,
      λ n within. ap (λ k. counts p j k r) (same_key_at n left states keys) ∙ which.1 n (omega (arith, within, same)),
    )

pub row_agrees : (p : Setting) (j : Journal) (r : Row) (own : List Slot) (states : List KeyState) → CountsFor p j r states own → StatesAgree p j states →
    StatesAgree p (entry.Row r ∷ j) (with_octets own r.header.octets states)
row_agrees p j r own states which agrees = record {
  keys_are = keys_row_counted own r.header.octets states ∙ agrees.keys_are;
  counts = row_counted p j r own states which agrees.counts;
  on = all_on_row_counted p j r own r.header.octets states agrees.on;
}

-- its octets can be counted where the keys' octets fit
pub can_count : (p : Setting) (j : Journal) (r : Row) (own : List Slot) (states : List KeyState) → CountsFor p j r states own → AllCount p j [] states →
    ((key : List ℕ) → counted p j key + r.header.octets < 2 ^ 64) → CanCount own r.header.octets states
unfolding AllCount
can_count p j r own states which all fits = (which.0, each own which.0)
  where
    each : (more : List Slot) → AreSlotsBelow (length states) more → AllByRecursion (λ (s : Slot). FitsMore s.0 r.header.octets states) more
    each [] below = tt
    each (slot ∷ more) below =
        let here : Counts p j [] (state_at slot.0 states) = all_state_at (Counts p j []) states slot.0 below.0 all in
        let fits_here : counted p j (state_at slot.0 states).key + r.header.octets < 2 ^ 64 = fits (state_at slot.0 states).key in
        (omega (arith, here.counted_is, fits_here), each more below.2)

-- ---- all rows
pub keys_rows_counted : {I : Type 0} (row : I → Row) (own : I → List Slot) (items : List I) (states : List KeyState) → keys_of (rows_counted row own items states) ≡ keys_of states
unfolding rows_counted
keys_rows_counted row own [] states = refl
keys_rows_counted row own (i ∷ items) states =
    keys_rows_counted row own items (with_octets (own i) (row i).header.octets states) ∙ keys_row_counted (own i) (row i).header.octets states

pub length-rows_counted : {I : Type 0} (row : I → Row) (own : I → List Slot) (items : List I) (states : List KeyState) → length (rows_counted row own items states) ≡ length states
length-rows_counted row own items states = many (rows_counted row own items states) states (keys_rows_counted row own items states)

pub rows_agree : {I : Type 0} (row : I → Row) (own : I → List Slot) (p : Setting) (j : Journal) (items : List I) (states : List KeyState) →
    AllByRecursion (λ i. CountsFor p j (row i) states (own i)) items → StatesAgree p j states → StatesAgree p (with_rows (map row items) j) (rows_counted row own items states)
unfolding with_rows rows_counted
rows_agree row own p j [] states which agrees = agrees
rows_agree row own p j (i ∷ items) states which agrees =
    let left : List KeyState = with_octets (own i) (row i).header.octets states in
    rows_agree row own p (entry.Row (row i) ∷ j) items left
    (all_same (λ k. CountsFor p j (row k) states (own k)) (λ k. CountsFor p (entry.Row (row i) ∷ j) (row k) left (own k)) items
    (λ k h. counts_for_later p j (row k) (row i) (own k) states left (keys_row_counted (own i) (row i).header.octets states) h) which.1)
    (row_agrees p j (row i) (own i) states which.0 agrees)

pub subscribed_after_rows : (rs : List Row) (j : Journal) → subscribed (with_rows rs j) ≡ subscribed j
unfolding with_rows subscribed
subscribed_after_rows [] j = refl
subscribed_after_rows (r ∷ rs) j = subscribed_after_rows rs (entry.Row r ∷ j)

-- ---- the thresholds at the end
pub agreement_ended : (p : Setting) (j : Journal) (states : List KeyState) (b : Bool) → StatesAgree p j states → b ≡ (subscribed j).usage_report →
    Ended p j [] states (appended (threshold_reports b states) (settled_states b states) j) (after_reports (threshold_reports b states) (settled_states b states))
unfolding appended after_reports KnowsAll
agreement_ended p j states b agrees subscribes = ending p j [] states b (distinct_slots p (tables j)) agrees.keys_are tt agrees.counts agrees.on subscribes

-- rows are counted one by one, and then the thresholds are reported
pub rows_ended : {I : Type 0} (row : I → Row) (own : I → List Slot) (p : Setting) (j : Journal) (items : List I) (states : List KeyState) (b : Bool) →
    keys_of states ≡ slots p j → AllCount p j [] states → AllOn p j states → AllByRecursion (λ i. CountsFor p j (row i) states (own i)) items →
    b ≡ (subscribed j).usage_report →
    Ended p (with_rows (map row items) j) [] (rows_counted row own items states)
    (appended (threshold_reports b (rows_counted row own items states)) (settled_states b (rows_counted row own items states)) (with_rows (map row items) j))
    (after_reports (threshold_reports b (rows_counted row own items states)) (settled_states b (rows_counted row own items states)))
rows_ended row own p j items states b keys counts on which subscribes =
    agreement_ended p (with_rows (map row items) j) (rows_counted row own items states) b
    (rows_agree row own p j items states which (record { keys_are = keys; counts = counts; on = on }))
    (subscribes ∙ ap (λ (t : TriggerSet). t.usage_report) (sym (subscribed_after_rows (map row items) j)))

-- that is the journal after a flush of some rows
pub flush_is : (p : Setting) (j new : Journal) (r : Row) (rs : List Row) (states left : List KeyState) → Ended p (with_rows (r ∷ rs) j) [] states new left → new ≡ after_flush p j (r ∷ rs)
unfolding with_reports
flush_is p j new r rs states left ended = ended.journal_is
