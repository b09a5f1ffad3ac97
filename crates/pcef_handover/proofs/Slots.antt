-- What a row adds to ten totals.
use Rattle.std.proofs.Common.{◌≡◌, ◌∙◌, ◌≤◌, ◌<◌, ◌+◌, ◌^◌, ◌==◌, ℕ, Bool, true, false, List, [], ◌∷◌, length, refl, sym, ap, arith, inl, inr, if◌then◌else◌, add-zero}
use Rattle.std.specs.Prelude.{slice_index}
use Rattle.std.proofs.lemmas.Bool.Decides.{eqb_tells}
use Rattle.pcef_rule.specs.declared.quantity.Slot.{Slot}
use Rattle.pcef_session.specs.declared.batch.Item.{Item}
use Rattle.pcef_model.specs.Slots.{AreSlotsBelow, is_one_of}
use Rattle.pcef_share.specs.Amounts.{plus}
use Rattle.pcef_handover.specs.Counting.{with_item, with_slots}
use Rattle.pcef_handover.proofs.Ledgers.{get_plus, length_plus, plus_other, plus_same}

-- ---- its slots
-- a number that is too great is not that of a slot
pub past_slots : (m n : ℕ) (own : List Slot) → AreSlotsBelow m own → m ≤ n → is_one_of n own ≡ false
past_slots m n [] below past = refl
past_slots m n (slot ∷ own) below past =
    elim (eqb_tells n slot.0) [
      | inl is ↦ absurd (omega (arith, is.1, below.0, past))
      | inr isnt ↦ rw isnt.0 (past_slots m n own below.2 past)
    ]

pub length_slots : (t : List ℕ) (own : List Slot) (o : ℕ) → length (with_slots t own o) ≡ length t
length_slots t [] o = refl
length_slots t (slot ∷ own) o = length_slots (plus t slot.0 o) own o ∙ length_plus t slot.0 o

-- each slot is raised once, and no other total is
pub slots_raised : (m : ℕ) (t : List ℕ) (own : List Slot) (o n : ℕ) → AreSlotsBelow m own → n < length t →
    slice_index (with_slots t own o) n ≡ slice_index t n + (if is_one_of n own then o else 0)
slots_raised m t [] o n below inside = sym (add-zero _)
slots_raised m t (slot ∷ own) o n below inside =
    let u : List ℕ = plus t slot.0 o in
    let rest = slots_raised m u own o n below.2 (omega (arith, inside, length_plus t slot.0 o)) in
    let here : slice_index u n ≡ slice_index t n + (if n == slot.0 then o else 0) = get_plus t slot.0 o n inside in
    elim (eqb_tells n slot.0) [
      | inl is ↦
          let once : is_one_of n own ≡ false = ap (λ k. is_one_of k own) is.1 ∙ below.1 in
          let none : (if is_one_of n own then o else 0) ≡ 0 = ap (λ (b : Bool). if b then o else 0) once in
          let raised : (if n == slot.0 then o else 0) ≡ o = ap (λ (b : Bool). if b then o else 0) is.0 in
          rw is.0 (omega (arith, rest, here, none, raised))
      | inr isnt ↦
          let none : (if n == slot.0 then o else 0) ≡ 0 = ap (λ (b : Bool). if b then o else 0) isnt.0 in
          rw isnt.0 (omega (arith, rest, here, none))
    ]

pub slots_keep : (t : List ℕ) (own : List Slot) (o n : ℕ) → AreSlotsBelow 8 own → 8 ≤ n → slice_index (with_slots t own o) n ≡ slice_index t n
slots_keep t [] o n low high = refl
slots_keep t (slot ∷ own) o n low high =
    slots_keep (plus t slot.0 o) own o n low.2 high ∙ plus_other t slot.0 o n (λ (e : n ≡ slot.0). absurd (omega (arith, e, low.0, high)))

-- a slot is raised by no more than a row's octets
pub slots_within : (m : ℕ) (t : List ℕ) (own : List Slot) (o n : ℕ) → AreSlotsBelow m own → n < length t → o < 2 ^ 32 → slice_index (with_slots t own o) n ≤ slice_index t n + 4294967295
slots_within m t own o n below inside small = from (is_one_of n own) (slots_raised m t own o n below inside)
  where
    from : (b : Bool) → slice_index (with_slots t own o) n ≡ slice_index t n + (if b then o else 0) → slice_index (with_slots t own o) n ≤ slice_index t n + 4294967295
    from true is = omega (arith, is, small)
    from false is = omega (arith, is)

-- ---- itself
pub item_within : (t : List ℕ) (i : Item) (n : ℕ) → AreSlotsBelow 8 i.slots.items → n < 8 → length t ≡ 10 → i.row.header.octets < 2 ^ 32 → slice_index (with_item t i) n ≤ slice_index t n + 4294967295
item_within t i n low less ten small =
    let u : List ℕ = with_slots t i.slots.items i.row.header.octets in
    let same : slice_index (plus u 8 1) n ≡ slice_index u n = plus_other u 8 1 n (λ (e : n ≡ 8). absurd (omega (arith, less, e))) in
    let more : slice_index u n ≤ slice_index t n + 4294967295 = slots_within 8 t i.slots.items i.row.header.octets n low (omega (arith, less, ten)) small in
    omega (arith, same, more)

pub item_length : (t : List ℕ) (i : Item) → length (with_item t i) ≡ length t
item_length t i = length_plus (with_slots t i.slots.items i.row.header.octets) 8 1 ∙ length_slots t i.slots.items i.row.header.octets

pub item_row : (t : List ℕ) (i : Item) → AreSlotsBelow 8 i.slots.items → length t ≡ 10 → slice_index (with_item t i) 8 ≡ slice_index t 8 + 1
item_row t i low ten =
    let u : List ℕ = with_slots t i.slots.items i.row.header.octets in
    let eight : slice_index (plus u 8 1) 8 ≡ slice_index u 8 + 1 = plus_same u 8 1 (omega (arith, length_slots t i.slots.items i.row.header.octets, ten)) in
    omega (arith, eight, slots_keep t i.slots.items i.row.header.octets 8 low (omega arith))
