-- The counters in the loop over rows that are taken over.
use Rattle.std.proofs.Common.{◌-◌, [], None, Some, length, set, suc, arith}
use Rattle.std.specs.Prelude.{slice_get}
use Rattle.std.proofs.lemmas.List.{length-map}
use Rattle.pcef_journal.specs.declared.lanes.LaneEnd.{LaneEnd}
use Rattle.pcef_journal.specs.Lanes.{just_attached, last_generation, lengthened}
use Rattle.pcef_session.specs.private.TakenRows.{with_lane}
use Rattle.std.proofs.Common.{◌≡◌, ◌∙◌, ◌≤◌, ◌<◌, ◌+◌, ℕ, List, ◌∷◌, length, sym, ap, subst, drop, get_or}
use Rattle.std.proofs.lemmas.List.{drop_all, drop_more}
use Rattle.std.proofs.Common.{map}
use Rattle.pcef_model.specs.declared.entry.Entry.TheVariants as entry
use Rattle.pcef_model.specs.Entries.{Journal}
use Rattle.pcef_model.specs.Reports.{with_rows}
use Rattle.pcef_model.specs.declared.row.Row.{Row}
use Rattle.pcef_rule.specs.declared.quantity.Slot.{Slot}
use Rattle.pcef_usage.specs.declared.usage.KeyState.{KeyState}
use Rattle.pcef_usage.specs.Flushes.{rows_counted}
use Rattle.pcef_usage.specs.Keys.{CanCount, with_octets}
use Rattle.pcef_session.specs.declared.batch.Item.{Item}
use Rattle.pcef_session.specs.private.TakenRows.{CanCountAll}
use Rattle.pcef_session.specs.Following.{row_of, row_slots}

-- what is left begins with the item at hand
split_here : (items : List Item) (i : ℕ) (item : Item) → i < length items → item ≡ get_or items i item → drop i items ≡ item ∷ drop (i + 1) items
split_here items i item within is = drop_more items i item within ∙ ap (λ (x : Item). x ∷ drop (i + 1) items) (sym is)

-- the octets of the item at hand can be counted
pub fits_here : (items : List Item) (i : ℕ) (item : Item) (states : List KeyState) (row : Row) (own : List Slot) → i < length items → item ≡ get_or items i item → row ≡ item.row → own ≡ item.slots.items →
    CanCountAll (drop i items) states → CanCount own row.header.octets states
fits_here items i item states row own within is row_is own_is fits =
    subst (λ ss. CanCount ss row.header.octets states) (sym own_is)
    (subst (λ (r : Row). CanCount item.slots.items r.header.octets states) (sym row_is) (subst (λ (xs : List Item). CanCountAll xs states) (split_here items i item within is) fits).0)

counted_one : (item : Item) (states : List KeyState) (row : Row) (own : List Slot) → row ≡ item.row → own ≡ item.slots.items →
    with_octets own row.header.octets states ≡ with_octets item.slots.items item.row.header.octets states
counted_one item states row own row_is own_is =
    ap (λ ss. with_octets ss row.header.octets states) own_is ∙ ap (λ (r : Row). with_octets item.slots.items r.header.octets states) row_is

-- and then those of the others
pub fits_later : (items : List Item) (i : ℕ) (item : Item) (states new : List KeyState) (row : Row) (own : List Slot) → i < length items → item ≡ get_or items i item → row ≡ item.row → own ≡ item.slots.items →
    new ≡ with_octets own row.header.octets states → CanCountAll (drop i items) states → CanCountAll (drop (i + 1) items) new
fits_later items i item states new row own within is row_is own_is new_is fits =
    subst (CanCountAll (drop (i + 1) items)) (sym (new_is ∙ counted_one item states row own row_is own_is))
    (subst (λ (xs : List Item). CanCountAll xs states) (split_here items i item within is) fits).1

-- what all rows count is what is left to count, one row on
pub counted_step : (items : List Item) (i : ℕ) (item : Item) (states new all : List KeyState) (row : Row) (own : List Slot) → i < length items → item ≡ get_or items i item → row ≡ item.row → own ≡ item.slots.items →
    new ≡ with_octets own row.header.octets states → rows_counted row_of row_slots (drop i items) states ≡ all →
    rows_counted row_of row_slots (drop (i + 1) items) new ≡ all
unfolding rows_counted
counted_step items i item states new all row own within is row_is own_is new_is before =
    ap (rows_counted row_of row_slots (drop (i + 1) items)) (new_is ∙ counted_one item states row own row_is own_is)
    ∙ sym (ap (λ (xs : List Item). rows_counted row_of row_slots xs states) (split_here items i item within is)) ∙ before

-- and nothing is left at the end
pub counted_end : (items : List Item) (i : ℕ) (states all : List KeyState) → length items ≤ i → rows_counted row_of row_slots (drop i items) states ≡ all → states ≡ all
unfolding rows_counted
counted_end items i states all past before = sym (ap (λ (xs : List Item). rows_counted row_of row_slots xs states) (drop_all i items past)) ∙ before

-- ---- the journal in that loop
pub taken_step : (items : List Item) (i : ℕ) (item : Item) (j new all : Journal) (row : Row) → i < length items → item ≡ get_or items i item → row ≡ item.row →
    new ≡ entry.Row row ∷ j → with_rows (map row_of (drop i items)) j ≡ all → with_rows (map row_of (drop (i + 1) items)) new ≡ all
unfolding with_rows
taken_step items i item j new all row within is row_is new_is before =
    ap (with_rows (map row_of (drop (i + 1) items))) (new_is ∙ ap (λ (r : Row). entry.Row r ∷ j) row_is) ∙
    sym (ap (λ xs. with_rows (map row_of xs) j) (drop_more items i item within ∙ ap (λ (x : Item). x ∷ drop (i + 1) items) (sym is))) ∙ before

pub taken_end : (items : List Item) (i : ℕ) (j all : Journal) → length items ≤ i → with_rows (map row_of (drop i items)) j ≡ all → j ≡ all
unfolding with_rows
taken_end items i j all past before = sym (ap (λ xs. with_rows (map row_of xs) j) (drop_all i items past)) ∙ before

-- ---- the lane
-- the last of some rows is the newest
last_is : (items : List Item) (item newest : Item) → Some newest ≡ slice_get (item ∷ items) (length items) → last_generation item.row.generation (map row_of items) ≡ newest.row.generation
last_is [] item newest is = let same : newest ≡ item = cc in ap (λ (i : Item). i.row.generation) (sym same)
last_is (i ∷ items) item newest is = last_is items i newest is

pub lane_grown : (worker : ℕ) (items : List Item) (newest : Item) (lanes new : List LaneEnd) → new ≡ set lanes worker (lengthened (length items) newest.row.generation (get_or lanes worker just_attached)) →
    slice_get items (length items - 1) ≡ Some newest → new ≡ with_lane worker (map row_of items) lanes
lane_grown worker [] newest lanes new is last = absurd (let none : None ≡ Some newest = last in cc)
lane_grown worker (i ∷ items) newest lanes new is last =
    let one_less : suc (length items) - 1 ≡ length items = omega arith in
    let there : Some newest ≡ slice_get (i ∷ items) (length items) = sym (sym (ap (slice_get (i ∷ items)) one_less) ∙ last) in
    is ∙ ap (λ g. set lanes worker (lengthened (suc (length items)) g (get_or lanes worker just_attached))) (sym (last_is items i newest there))
    ∙ ap (λ n. set lanes worker (lengthened n (last_generation i.row.generation (map row_of items)) (get_or lanes worker just_attached))) (ap suc (sym (length-map items row_of)))
