-- Names that are kept once each.
use Rattle.std.proofs.Common.{◌≡◌, ◌++◌, ◌∷◌, ◌∙◌, ℕ, zero, suc, true, Some, List, [], inl, inr, sym}
use Rattle.std.specs.Prelude.{slice_get}
use Rattle.std.specs.List.{list_any}
use Rattle.std.proofs.lemmas.Bool.{cases_Bool, cond-false, cond-true, or_left, or_right}
use Rattle.std.proofs.lemmas.List.{append-nil}
use Rattle.pcef_model.specs.Setting.{same_name}
use Rattle.pcef_model.proofs.Sameness.{same_name_of}
use Rattle.pcef_journaled.specs.KeptNames.{NamesGoOn, with_name}

-- a name that is put among others leaves each at its place
pub goes_on : (name : List ℕ) (names : List (List ℕ)) → NamesGoOn names (with_name name names)
goes_on name names =
    let there = list_any (same_name name) names in
    elim (cases_Bool there) [
      | inl old ↦ ([], cond-true there names (names ++ name ∷ []) old ∙ sym (append-nil names))
      | inr new ↦ (name ∷ [], cond-false there names (names ++ name ∷ []) new)
    ]

-- a name that stands at a place is among the names
is_there : (name : List ℕ) (names : List (List ℕ)) (place : ℕ) → slice_get names place ≡ Some name → list_any (same_name name) names ≡ true
is_there name [] place stands = absurd (cc)
is_there name (n ∷ ns) zero stands =
    let same : name ≡ n = cc in
    or_left (same_name name n) (list_any (same_name name) ns) (same_name_of name n same)
is_there name (n ∷ ns) (suc place) stands = or_right (same_name name n) (list_any (same_name name) ns) (is_there name ns place stands)

-- so it is not put behind them again
pub stays : (name : List ℕ) (names : List (List ℕ)) (place : ℕ) → slice_get names place ≡ Some name → names ≡ with_name name names
stays name names place stands = sym (cond-true (list_any (same_name name) names) names (names ++ name ∷ []) (is_there name names place stands))
