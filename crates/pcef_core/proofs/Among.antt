-- Lists of which some pass a test.
use Rattle.std.proofs.Common.{◌≡◌, Bool, true, List, [], ◌∷◌, ◌++◌, inl, inr, refl}
use Rattle.std.specs.List.{list_any}
use Rattle.std.proofs.lemmas.Bool.{cases_Bool}

-- where some pass, some of a longer list do
pub any_front : {X : Type 0} (test : X → Bool) (xs ys : List X) → list_any test xs ≡ true → list_any test (xs ++ ys) ≡ true
any_front test [] ys is = absurd cc
any_front test (x ∷ xs) ys is =
    elim (cases_Bool (test x)) [
      | inl here ↦ rw here refl
      | inr other ↦ let rest : list_any test xs ≡ true = rw other at is in rw other (any_front test xs ys rest)
    ]

pub any_back : {X : Type 0} (test : X → Bool) (xs ys : List X) → list_any test ys ≡ true → list_any test (xs ++ ys) ≡ true
any_back test [] ys is = is
any_back test (x ∷ xs) ys is =
    elim (cases_Bool (test x)) [
      | inl here ↦ rw here refl
      | inr other ↦ rw other (any_back test xs ys is)
    ]
