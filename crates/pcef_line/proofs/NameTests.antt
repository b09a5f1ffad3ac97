-- The test of a name finds names.
use Rattle.std.proofs.Common.{◌≡◌, ℕ, ◌≤◌, List, length, Ok, Err, refl, arith}
use Rattle.std.specs.Bool.{Decides}
use Rattle.std.specs.List.{list_all}
use Rattle.std.proofs.lemmas.Bool.{false_from_ne_true}
use Rattle.std.proofs.lemmas.Bool.Decides.{Decides-and, Decides-like, Decides-by_and, nat_tests}
use Rattle.pcef_rule.specs.Name.{IsName, IsVisible}
use Rattle.pcef_line.specs.declared.fault.LineFault.{LineFault}
use Rattle.pcef_line.specs.LineValues.{is_visible, is_name}
use Rattle.pcef_base.specs.Readings.{is_from_to, passing}

decides_range : (least most n : ℕ) → Decides (is_from_to least most n) ((least ≤ n) × (n ≤ most))
decides_range least most n = (λ e. (grind (arith, nat_tests), grind (arith, nat_tests)), λ h. let low = h.0 in let high = h.1 in grind (arith, nat_tests))

decides_name : (text : List ℕ) → Decides (is_name text) (IsName text)
decides_name text =
    Decides-like (is_name text)
    (λ h. (omega (arith, h.0.0), h.0.1, h.1))
    (λ h. ((omega (arith, h.0), h.1), h.2))
    (Decides-and _ _ (decides_range 1 64 (length text)) (Decides-by_and is_visible IsVisible (list_all is_visible) (decides_range 33 126) refl (λ _ _. refl) text))

pub named : (text name : List ℕ) (fault : LineFault) → IsName text → name ≡ text → passing is_name fault text ≡ Ok name
named text name fault is same = rw ((decides_name text).1 is, same) refl

pub unnamed : (text : List ℕ) (fault : LineFault) → (IsName text → ⊥) → passing is_name fault text ≡ Err fault
unnamed text fault isnt = rw (false_from_ne_true (is_name text) (λ e. isnt ((decides_name text).0 e))) refl
