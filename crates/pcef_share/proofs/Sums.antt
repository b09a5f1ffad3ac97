-- Shares that are taken back one after the other.
use Rattle.std.proofs.Common.{◌≡◌, ℕ, List, [], ◌∷◌, ◌++◌, refl, Option, None, Some, ◌+◌, count_by, is_some, cond, ◌∙◌, add-zero}
use Rattle.std.proofs.lemmas.List.Sums.{sum_by_push}
use Rattle.pcef_share.specs.Amounts.{added, sums}

pub sums_some : (at : List ℕ) (xs : List (Option (List ℕ))) (s : List ℕ)
    → sums at (xs ++ Some s ∷ []) ≡ added (sums at xs) s
sums_some at [] s = refl
sums_some at (None ∷ xs) s = sums_some at xs s
sums_some at (Some x ∷ xs) s = sums_some (added at x) xs s

pub sums_none : (at : List ℕ) (xs : List (Option (List ℕ))) → sums at (xs ++ None ∷ []) ≡ sums at xs
sums_none at [] = refl
sums_none at (None ∷ xs) = sums_none at xs
sums_none at (Some x ∷ xs) = sums_none (added at x) xs

pub count_some : (xs : List (Option (List ℕ))) (s : List ℕ)
    → count_by is_some (xs ++ Some s ∷ []) ≡ count_by is_some xs + 1
count_some xs s = sum_by_push (λ x. cond (is_some x) 1 0) xs (Some s)

pub count_none : (xs : List (Option (List ℕ)))
    → count_by is_some (xs ++ None ∷ []) ≡ count_by is_some xs
count_none xs = sum_by_push (λ x. cond (is_some x) 1 0) xs None ∙ add-zero _
