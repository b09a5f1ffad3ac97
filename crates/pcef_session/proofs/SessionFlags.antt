-- Flags of slots: which slots are up, and the keys that have them.
use Rattle.std.proofs.Common.{◌≡◌, ◌∙◌, ◌<◌, ◌+◌, ◌==◌, ◌||◌, ℕ, suc, zero, Bool, true, false, List, [], ◌∷◌, Some, None, get_or, length, set, refl, sym, ap, ap₂, arith, inl, inr}
use Rattle.std.specs.Prelude.{Option, if◌then◌else◌}
use Rattle.std.specs.List.{list_any}
use Rattle.std.specs.Option.{option_to_list}
use Rattle.std.proofs.lemmas.Bool.{cases_Bool, eq-eqb, eqb-true, false_from_ne_true}
use Rattle.std.proofs.lemmas.List.{get_or-set_other, get_or-set_same}
use Rattle.pcef_base.proofs.Tests.{contrary}
use Rattle.pcef_rule.specs.declared.quantity.Slot.{Slot}
use Rattle.pcef_table.specs.SessionSlots.{slots_from, slots_up, with_flag_up}
use Rattle.pcef_model.specs.Slots.{AreSlotsBelow, is_one_of, place_of}
use Rattle.pcef_model.proofs.SlotWords.{IsWithin, has_one_of, is_at}

no_or : (a : Bool) → (a || false) ≡ a
no_or true = refl
no_or false = refl

-- ---- the slots that are up
-- none is less than the first number
past_first : (m n : ℕ) (flags : List Bool) → m < n → is_one_of m (slots_from n flags) ≡ false
past_first m n [] below = refl
past_first m n (up ∷ flags) below =
    let rest = past_first m (suc n) flags (omega (arith, below)) in
    elim (cases_Bool up) [
      | inl is ↦
          let differs : (m == n) ≡ false = false_from_ne_true (m == n) (λ same. let e = eqb-true m n same in absurd (omega (arith, below, e))) in
          rw is (ap₂ (λ a b. a || b) differs rest)
      | inr isnt ↦ rw isnt rest
    ]

up_from : (n m : ℕ) (flags : List Bool) → is_one_of (n + m) (slots_from n flags) ≡ get_or flags m false
up_from n zero [] = refl
up_from n (suc m) [] = refl
up_from n zero (up ∷ flags) =
    let here : n + 0 ≡ n = omega arith in
    elim (cases_Bool up) [
      | inl is ↦ rw is (ap (λ b. b || is_one_of (n + 0) (slots_from (suc n) flags)) (eq-eqb (n + 0) n here))
      | inr isnt ↦ rw isnt (past_first (n + 0) (suc n) flags (omega arith))
    ]
up_from n (suc m) (up ∷ flags) =
    let on : n + suc m ≡ suc n + m = omega arith in
    let rest : is_one_of (n + suc m) (slots_from (suc n) flags) ≡ get_or flags m false = ap (λ k. is_one_of k (slots_from (suc n) flags)) on ∙ up_from (suc n) m flags in
    let differs : (n + suc m == n) ≡ false = false_from_ne_true (n + suc m == n) (λ same. let e = eqb-true (n + suc m) n same in absurd (omega (arith, e))) in
    elim (cases_Bool up) [
      | inl is ↦ rw is (ap₂ (λ a b. a || b) differs rest)
      | inr isnt ↦ rw isnt rest
    ]

pub is_up : (m : ℕ) (flags : List Bool) → is_one_of m (slots_up flags) ≡ get_or flags m false
is_up m flags = (let same : m ≡ 0 + m = omega arith in ap (λ k. is_one_of k (slots_up flags)) same ∙ up_from 0 m flags)

-- slots that are up are those of keys where each flag that is up is one of a key
within_from : (n k : ℕ) (flags : List Bool) → ((m : ℕ) → get_or flags m false ≡ true → n + m < k) → AreSlotsBelow k (slots_from n flags)
within_from n k [] below = tt
within_from n k (up ∷ flags) below =
    let rest = within_from (suc n) k flags (λ m is. let b = below (suc m) is in omega (arith, b)) in
    elim (cases_Bool up) [
      | inl is ↦ let b = below 0 is in rw is (omega (arith, b), past_first n (suc n) flags (omega arith), rest)
      | inr isnt ↦ rw isnt rest
    ]

pub within_up : (keys : List (List ℕ)) (flags : List Bool) → ((m : ℕ) → get_or flags m false ≡ true → m < length keys) → IsWithin keys (slots_up flags)
within_up keys flags below = within_from 0 (length keys) flags (λ m is. let b = below m is in omega (arith, b))

one_below : (k m : ℕ) (own : List Slot) → AreSlotsBelow k own → is_one_of m own ≡ true → m < k
one_below k m [] below is = absurd cc
one_below k m (slot ∷ own) below is =
    elim (cases_Bool (m == slot.0)) [
      | inl same ↦ let e = eqb-true m slot.0 same in let b = below.0 in omega (arith, b, e)
      | inr differs ↦ let rest : is_one_of m own ≡ true = rw differs at is in one_below k m own below.2 rest
    ]

pub up_within : (keys : List (List ℕ)) (flags : List Bool) (m : ℕ) → IsWithin keys (slots_up flags) → get_or flags m false ≡ true → m < length keys
up_within keys flags m within is = one_below (length keys) m (slots_up flags) within (is_up m flags ∙ is)

-- ---- the keys of slots
nobody : (own : List Slot) → list_any (λ (slot : Slot). is_at None slot.0) own ≡ false
nobody [] = refl
nobody (slot ∷ own) = nobody own

pub has_none : (keys : List (List ℕ)) (own : List Slot) (key : List ℕ) → place_of key keys ≡ None → has_one_of keys own key ≡ false
has_none keys own key none = ap (λ o. list_any (λ (slot : Slot). is_at o slot.0) own) none ∙ nobody own

pub has_at : (keys : List (List ℕ)) (own : List Slot) (key : List ℕ) (m : ℕ) → place_of key keys ≡ Some m → has_one_of keys own key ≡ is_one_of m own
has_at keys own key m some = ap (λ o. list_any (λ (slot : Slot). is_at o slot.0) own) some

-- ---- a flag that is set
pub flag_set : (flags : List Bool) (n m : ℕ) (b : Bool) → n < length flags → get_or (set flags n b) m false ≡ (if m == n then b else get_or flags m false)
flag_set flags n m b within =
    elim (cases_Bool (m == n)) [
      | inl same ↦ let e : m ≡ n = eqb-true m n same in rw same (ap (λ k. get_or (set flags n b) k false) e ∙ get_or-set_same flags n b false within)
      | inr differs ↦ rw differs (get_or-set_other flags n m b false (λ e. contrary (m == n) (eq-eqb m n e) differs))
    ]

-- with one slot more up, the keys of the slots are one more
pub with_up : (keys : List (List ℕ)) (flags : List Bool) (o : Option Slot) (key : List ℕ) → ((s : Slot) → o ≡ Some s → s.0 < length flags) →
    has_one_of keys (slots_up (with_flag_up o flags)) key ≡ (has_one_of keys (slots_up flags) key || has_one_of keys (option_to_list o) key)
with_up keys flags None key within = sym (no_or (has_one_of keys (slots_up flags) key))
with_up keys flags (Some s) key within = from (place_of key keys) refl
  where
    joined : (a b : Bool) → (if a then true else b) ≡ (b || (a || false))
    joined true true = refl
    joined true false = refl
    joined false true = refl
    joined false false = refl

    from : (o : Option ℕ) → place_of key keys ≡ o →
        has_one_of keys (slots_up (set flags s.0 true)) key ≡ (has_one_of keys (slots_up flags) key || has_one_of keys (s ∷ []) key)
    from None none =
        has_none keys (slots_up (set flags s.0 true)) key none
        ∙ sym (ap₂ (λ a b. a || b) (has_none keys (slots_up flags) key none) (has_none keys (s ∷ []) key none))
    from (Some m) some =
        has_at keys (slots_up (set flags s.0 true)) key m some ∙ is_up m (set flags s.0 true) ∙ flag_set flags s.0 m true (within s refl)
        ∙ joined (m == s.0) (get_or flags m false)
        ∙ sym (ap₂ (λ a b. a || b) (has_at keys (slots_up flags) key m some ∙ is_up m flags) (has_at keys (s ∷ []) key m some))

-- and they stay slots of keys
pub with_up_within : (keys : List (List ℕ)) (flags : List Bool) (o : Option Slot) → ((s : Slot) → o ≡ Some s → (s.0 < length flags) × (s.0 < length keys)) →
    IsWithin keys (slots_up flags) → IsWithin keys (slots_up (with_flag_up o flags))
with_up_within keys flags None within old = old
with_up_within keys flags (Some s) within old =
    within_up keys (set flags s.0 true) (λ m is.
    elim (cases_Bool (m == s.0)) [
      | inl same ↦ let e = eqb-true m s.0 same in let b = (within s refl).1 in omega (arith, b, e)
      | inr differs ↦
          let up : get_or flags m false ≡ true = sym (flag_set flags s.0 m true (within s refl).0 ∙ rw differs refl) ∙ is in
          up_within keys flags m old up
    ])
