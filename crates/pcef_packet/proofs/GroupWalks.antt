-- Groups, one by one, and the place of two colons.
use Rattle.std.proofs.Common.{ℕ, suc, ◌≡◌, ◌+◌, ◌-◌, ◌*◌, ◌<◌, ◌≤◌, ◌∙◌, ◌==◌, true, false, List, [], ◌∷◌, length, Option, Some, refl, sym, ap, arith, inl, inr}
use Rattle.std.proofs.lemmas.Bool.{and_parts, cases_Bool}
use Rattle.pcef_packet.specs.AddressTexts.{cut_at}
use Rattle.pcef_packet.specs.ColonHex.{colon, group_of}
use Rattle.pcef_packet.specs.AddressTexts.{begins_gap, gap_place, groups_within}

pub groups_step : (number count g : ℕ) (left front rest : List ℕ) (whole : Option (ℕ × ℕ)) → count < 8 → groups_within (8 - count) number count left ≡ whole
    → cut_at colon left ≡ Some (front, rest) → Some g ≡ group_of front → groups_within (8 - (count + 1)) (number * 65536 + g) (count + 1) rest ≡ whole
unfolding groups_within
groups_step number count g left front rest whole few is cut first =
    let one : 8 - count ≡ suc (8 - (count + 1)) = omega arith in
    let opened : groups_within (suc (8 - (count + 1))) number count left ≡ groups_within (8 - (count + 1)) (number * 65536 + g) (count + 1) rest = rw (cut, ← first) refl in
    sym opened ∙ ap (λ (n : ℕ). groups_within n number count left) (sym one) ∙ is

-- the two colons are within the text
pub gap_within : (text : List ℕ) → gap_place text < length text → gap_place text + 2 ≤ length text
gap_within [] h = absurd (omega arith)
gap_within (o ∷ []) h =
    elim (cases_Bool (begins_gap (o ∷ []))) [
      | inl gap ↦ absurd (let both = and_parts (o == colon) (0 == colon) gap in let clash : false ≡ true = both.1 in cc)
      | inr none ↦ absurd (let at : gap_place (o ∷ []) ≡ 1 = rw none refl in omega (arith, at, h))
    ]
gap_within (o ∷ p ∷ os) h =
    elim (cases_Bool (begins_gap (o ∷ p ∷ os))) [
      | inl gap ↦ (let at : gap_place (o ∷ p ∷ os) ≡ 0 = rw gap refl in omega (arith, at))
      | inr none ↦
          (let at : gap_place (o ∷ p ∷ os) ≡ suc (gap_place (p ∷ os)) = rw none refl in
          let rest = gap_within (p ∷ os) (omega (arith, at, h)) in
          omega (arith, at, rest))
    ]
