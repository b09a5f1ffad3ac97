-- Flags of slots, and the slots whose flags are up.
use Rattle.std.proofs.Common.{◌≡◌, ◌∙◌, ◌<◌, ◌+◌, ◌++◌, ℕ, suc, Bool, true, false, List, replicate, [], ◌∷◌, get_or, length, take, refl, sym, ap, arith, inl, inr, if◌then◌else◌}
use Rattle.std.specs.List.{list_any}
use Rattle.std.proofs.lemmas.Bool.{cases_Bool}
use Rattle.std.proofs.lemmas.List.{length-take-le, take_more}
use Rattle.pcef_rule.specs.declared.quantity.Slot.{Slot}
use Rattle.pcef_table.specs.SessionSlots.{slots_from, slots_up}

-- one flag more
up_push : (n : ℕ) (flags : List Bool) (up : Bool) → slots_from n (flags ++ up ∷ []) ≡ slots_from n flags ++ (if up then record { 0 = n + length flags } ∷ [] else [])
up_push n [] up =
    elim (cases_Bool up) [
      | inl is ↦ rw is (ap (λ (m : ℕ). record { 0 = m } ∷ []) (omega arith))
      | inr isnt ↦ rw isnt refl
    ]
up_push n (first ∷ flags) up =
    let rest : slots_from (suc n) (flags ++ up ∷ []) ≡ slots_from (suc n) flags ++ (if up then record { 0 = n + suc (length flags) } ∷ [] else []) =
    up_push (suc n) flags up ∙ ap (λ (m : ℕ). slots_from (suc n) flags ++ (if up then record { 0 = m } ∷ [] else [])) (omega arith) in
    elim (cases_Bool first) [
      | inl is ↦ rw is (ap (λ (slots : List Slot). record { 0 = n } ∷ slots) rest)
      | inr isnt ↦ rw isnt rest
    ]

pub up_step : (flags : List Bool) (i : ℕ) (d : Bool) (old new : List Slot) (up : Bool) (place : ℕ) → i < length flags → old ≡ slots_up (take i flags) → up ≡ get_or flags i d → place ≡ i →
    new ≡ old ++ (if up then record { 0 = place } ∷ [] else []) → new ≡ slots_up (take (i + 1) flags)
up_step flags i d old new up place within before is placed pushed =
    let many : 0 + length (take i flags) ≡ i = (let e = length-take-le i flags (omega arith) in omega (arith, e)) in
    pushed ∙ ap (λ (slots : List Slot). slots ++ (if up then record { 0 = place } ∷ [] else [])) before
    ∙ ap (λ (b : Bool). slots_up (take i flags) ++ (if b then record { 0 = place } ∷ [] else [])) is
    ∙ ap (λ (m : ℕ). slots_up (take i flags) ++ (if get_or flags i d then record { 0 = m } ∷ [] else [])) (placed ∙ sym many)
    ∙ sym (ap slots_up (take_more flags i d within) ∙ up_push 0 (take i flags) (get_or flags i d))

-- flags of which none is up
pub none_up : (flags : List Bool) → list_any (λ up. up) flags ≡ false → flags ≡ replicate (length flags) false
none_up [] none = refl
none_up (true ∷ flags) none = absurd (cc)
none_up (false ∷ flags) none = ap (λ (fs : List Bool). false ∷ fs) (none_up flags none)
