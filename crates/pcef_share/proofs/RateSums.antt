-- Shares of rates that are taken back one after the other.
use Rattle.std.proofs.Common.{◌≡◌, List, [], ◌∷◌, ◌++◌, refl}
use Rattle.pcef_rule.specs.declared.quantity.Sums.{Sums}
use Rattle.pcef_share.specs.Rates.{sum_of_rates, with_rates}

pub sum_more : (at : Sums) (xs : List Sums) (s : Sums) → sum_of_rates at (xs ++ s ∷ []) ≡ with_rates (sum_of_rates at xs) s
sum_more at [] s = refl
sum_more at (x ∷ xs) s = sum_more (with_rates at x) xs s
