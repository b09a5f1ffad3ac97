-- A packet row, counted for the keys of its slots, keeps the counters in agreement with the journal.
use Rattle.std.proofs.Common.{◌≡◌, ◌≢◌, ◌≤◌, ◌<◌, ◌+◌, ◌^◌, ◌∙◌, ◌==◌, ℕ, Bool, true, false, List, [], ◌∷◌, length, refl, sym, ap, arith, inl, inr, zero, suc, subst, drop, get_or}
use Rattle.std.specs.Prelude.{if◌then◌else◌}
use Rattle.std.specs.List.{AllByRecursion}
use Rattle.std.proofs.lemmas.Bool.Decides.{eqb_tells}
use Rattle.std.proofs.lemmas.List.{drop_all, drop_more}
use Rattle.pcef_rule.specs.declared.quantity.Slot.{Slot}
use Rattle.pcef_model.specs.declared.entry.Entry.TheVariants as entry
use Rattle.pcef_model.specs.declared.row.Row.{Row}
use Rattle.pcef_model.specs.Setting.{Setting}
use Rattle.pcef_model.specs.Commands.{is_among}
use Rattle.pcef_model.specs.Entries.{Journal}
use Rattle.pcef_model.specs.Journals.{counted, counts, grant, now, reported}
use Rattle.pcef_model.specs.Slots.{AreSlotsBelow, is_one_of}
use Rattle.pcef_model.proofs.Growth.{counted_after_row}
use Rattle.pcef_usage.specs.declared.usage.KeyState.{KeyState}
use Rattle.pcef_usage.specs.Keys.{CanCount, FitsMore, added, at_place, keys_of, state_at, with_octets}
use Rattle.pcef_usage.specs.PendingReports.{AllCount, AllOn, Counts}
use Rattle.pcef_usage.proofs.Endings.{from_on, on_at, to_on}
use Rattle.pcef_usage.proofs.Places.{all_state_at, length-at_place, or_no}
use Rattle.pcef_usage.proofs.Tells.{keys_at_place}

-- a row counts for the keys of these slots, and for no other
abbrev pub CountsFor : Setting → Journal → Row → List KeyState → List Slot → Type 0
CountsFor p j r states own =
    AreSlotsBelow (length states) own × ((n : ℕ) → n < length states → counts p j (state_at n states).key r ≡ is_one_of n own)

-- ---- the counters, place by place
at_same : (f : KeyState → KeyState) (n : ℕ) (states : List KeyState) → n < length states → state_at n (at_place n f states) ≡ f (state_at n states)
at_same f n [] within = absurd (omega arith)
at_same f zero (s ∷ states) within = refl
at_same f (suc n) (s ∷ states) within = at_same f n states (omega arith)

at_other : (f : KeyState → KeyState) (m n : ℕ) (states : List KeyState) → n ≢ m → state_at n (at_place m f states) ≡ state_at n states
at_other f m n [] differ = refl
at_other f zero zero (s ∷ states) differ = absurd (differ refl)
at_other f zero (suc n) (s ∷ states) differ = refl
at_other f (suc m) zero (s ∷ states) differ = refl
at_other f (suc m) (suc n) (s ∷ states) differ = at_other f m n states (λ (e : n ≡ m). differ (ap suc e))

all_by_place : (P : KeyState → Type 0) (states : List KeyState) → ((n : ℕ) → n < length states → P (state_at n states)) → AllByRecursion P states
all_by_place P [] each = tt
all_by_place P (s ∷ states) each = (each 0 (omega arith), all_by_place P states (λ n within. each (suc n) (omega (arith, within))))

still_below : (f : KeyState → KeyState) (m : ℕ) (states : List KeyState) (own : List Slot) → AreSlotsBelow (length states) own → AreSlotsBelow (length (at_place m f states)) own
still_below f m states own below = subst (λ n. AreSlotsBelow n own) (sym (length-at_place f m states)) below

pub length_counted : (own : List Slot) (octets : ℕ) (states : List KeyState) → length (with_octets own octets states) ≡ length states
length_counted [] octets states = refl
length_counted (slot ∷ own) octets states =
    length_counted own octets (at_place slot.0 (added octets) states) ∙ length-at_place (added octets) slot.0 states

-- each slot's key has the octets once more, and no other key has
state_counted : (own : List Slot) (octets n : ℕ) (states : List KeyState) → AreSlotsBelow (length states) own → n < length states →
    state_at n (with_octets own octets states) ≡ (if is_one_of n own then added octets (state_at n states) else state_at n states)
state_counted [] octets n states below within = refl
state_counted (slot ∷ own) octets n states below within =
    let next : List KeyState = at_place slot.0 (added octets) states in
    let rest : state_at n (with_octets own octets next) ≡ (if is_one_of n own then added octets (state_at n next) else state_at n next) =
    state_counted own octets n next (still_below (added octets) slot.0 states own below.2) (omega (arith, within, length-at_place (added octets) slot.0 states)) in
    elim (eqb_tells n slot.0) [
      | inl is ↦
          let once : is_one_of n own ≡ false = ap (λ m. is_one_of m own) is.1 ∙ below.1 in
          let here : state_at n next ≡ added octets (state_at n states) =
          ap (λ m. state_at n (at_place m (added octets) states)) (sym is.1) ∙ at_same (added octets) n states within in
          rw is.0 (rest ∙ ap (λ (b : Bool). if b then added octets (state_at n next) else state_at n next) once ∙ here)
      | inr isnt ↦
          rw isnt.0 (rest ∙ ap (λ s. if is_one_of n own then added octets s else s) (at_other (added octets) slot.0 n states isnt.1))
    ]

-- ---- the octets that can be counted
pub fits_next : (slot : Slot) (own : List Slot) (octets : ℕ) (states : List KeyState) → CanCount (slot ∷ own) octets states → CanCount own octets (at_place slot.0 (added octets) states)
fits_next slot own octets states can = (still_below (added octets) slot.0 states own can.0.2, each own can.0.1 can.1.1)
  where
    each : (more : List Slot) → is_one_of slot.0 more ≡ false → AllByRecursion (λ (s : Slot). FitsMore s.0 octets states) more →
        AllByRecursion (λ (s : Slot). FitsMore s.0 octets (at_place slot.0 (added octets) states)) more
    each [] none fits = tt
    each (s ∷ more) none fits =
        let apart = or_no (slot.0 == s.0) (is_one_of slot.0 more) none in
        (subst (λ (k : KeyState). k.reported + k.unreported + octets < 2 ^ 64) (sym (at_other (added octets) slot.0 s.0 states (differ s apart.0))) fits.0, each more apart.1 fits.1)
      where
        differ : (s : Slot) → (slot.0 == s.0) ≡ false → s.0 ≢ slot.0
        differ s apart = elim (eqb_tells slot.0 s.0) [
          | inl is ↦ absurd cc
          | inr isnt ↦ λ (e : s.0 ≡ slot.0). isnt.1 (sym e)
        ]

-- ---- one key
one_counted : (p : Setting) (j : Journal) (r : Row) (s : KeyState) (b : Bool) → counts p j s.key r ≡ b → Counts p j [] s →
    Counts p (entry.Row r ∷ j) [] (if b then added r.header.octets s else s)
unfolding grant reported
one_counted p j r s true is agrees =
    let more : counted p (entry.Row r ∷ j) s.key ≡ r.header.octets + counted p j s.key =
    counted_after_row p j s.key r ∙ ap (λ (b : Bool). (if b then r.header.octets else 0) + counted p j s.key) is in
    record { grant_is = agrees.grant_is; reported_is = agrees.reported_is; counted_is = omega (arith, agrees.counted_is) }
one_counted p j r s false isnt agrees =
    let same : counted p (entry.Row r ∷ j) s.key ≡ 0 + counted p j s.key =
    counted_after_row p j s.key r ∙ ap (λ (b : Bool). (if b then r.header.octets else 0) + counted p j s.key) isnt in
    record { grant_is = agrees.grant_is; reported_is = agrees.reported_is; counted_is = omega (arith, agrees.counted_is) }

-- ---- all keys
pub row_counted : (p : Setting) (j : Journal) (r : Row) (own : List Slot) (states : List KeyState) → CountsFor p j r states own → AllCount p j [] states →
    AllCount p (entry.Row r ∷ j) [] (with_octets own r.header.octets states)
unfolding AllCount
row_counted p j r own states which agrees =
    let o : ℕ = r.header.octets in
    all_by_place (Counts p (entry.Row r ∷ j) []) (with_octets own o states) (λ n within.
    let inside : n < length states = omega (arith, within, length_counted own o states) in
    subst (Counts p (entry.Row r ∷ j) []) (sym (state_counted own o n states which.0 inside))
    (one_counted p j r (state_at n states) (is_one_of n own) (which.1 n inside) (all_state_at (Counts p j []) states n inside agrees)))

pub keys_row_counted : (own : List Slot) (octets : ℕ) (states : List KeyState) → keys_of (with_octets own octets states) ≡ keys_of states
keys_row_counted [] octets states = refl
keys_row_counted (slot ∷ own) octets states =
    keys_row_counted own octets (at_place slot.0 (added octets) states) ∙ keys_at_place (added octets) slot.0 states (λ s. refl)

on_counted : (g : List (List ℕ)) (own : List Slot) (octets : ℕ) (states : List KeyState) → AllByRecursion (λ s. s.on ≡ is_among s.key g) states →
    AllByRecursion (λ s. s.on ≡ is_among s.key g) (with_octets own octets states)
on_counted g [] octets states on = on
on_counted g (slot ∷ own) octets states on =
    on_counted g own octets (at_place slot.0 (added octets) states) (on_at g (added octets) slot.0 states (λ s. (refl, refl)) on)

pub all_on_row_counted : (p : Setting) (j : Journal) (r : Row) (own : List Slot) (octets : ℕ) (states : List KeyState) → AllOn p j states → AllOn p (entry.Row r ∷ j) (with_octets own octets states)
all_on_row_counted p j r own octets states on =
    to_on p (entry.Row r ∷ j) (with_octets own octets states) (on_counted (now p j).on own octets states (from_on p j states on))

-- ---- the loop over slots
-- the octets of the slot at hand can be counted, and then those of the others
pub slot_fits : (own : List Slot) (i : ℕ) (d : Slot) (octets : ℕ) (states : List KeyState) → i < length own → CanCount (drop i own) octets states →
    CanCount (get_or own i d ∷ drop (i + 1) own) octets states
slot_fits own i d octets states within can = subst (λ xs. CanCount xs octets states) (drop_more own i d within) can

pub slot_step : (own : List Slot) (i : ℕ) (d : Slot) (octets : ℕ) (states new all : List KeyState) → i < length own → new ≡ at_place (get_or own i d).0 (added octets) states →
    with_octets (drop i own) octets states ≡ all → with_octets (drop (i + 1) own) octets new ≡ all
slot_step own i d octets states new all within new_is before =
    ap (with_octets (drop (i + 1) own) octets) new_is ∙ sym (ap (λ xs. with_octets xs octets states) (drop_more own i d within)) ∙ before

pub slot_end : (own : List Slot) (i octets : ℕ) (states all : List KeyState) → length own ≤ i → with_octets (drop i own) octets states ≡ all → states ≡ all
slot_end own i octets states all past before = sym (ap (λ xs. with_octets xs octets states) (drop_all i own past)) ∙ before
