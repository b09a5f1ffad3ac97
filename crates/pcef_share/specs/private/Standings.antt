-- How books stand, beside the parts that they keep.
use Rattle.std.specs.Prelude.{ℕ, List}
use Rattle.pcef_rule.specs.declared.quantity.Sums.{Sums}

-- a book's total, and how many parts it keeps, with what was added to those
pub record Standing : Type 0 where
  pub total : ℕ
  pub parts : ℕ
  pub amount : ℕ

-- the same of ten books, which keep equally many parts
pub record Standings : Type 0 where
  pub totals : List ℕ
  pub parts : ℕ
  pub amounts : List ℕ

-- the same of the two books of a pool
pub record RateStandings : Type 0 where
  pub granted : Sums
  pub parts : ℕ
  pub amounts : Sums
