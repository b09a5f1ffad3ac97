-- What was added to ten ledgers: those of slots 0 to 7, of the rows and of the commands.
use Rattle.std.specs.Prelude.{ℕ, ◌+◌, List, [], ◌∷◌, Option, None, Some, slice_index, slice_set}

-- the totals of the ten books, and how many shares of them were issued
pub record Account : Type 0 where
  pub totals : List ℕ
  pub issued : ℕ

abbrev pub row_ledger : ℕ
row_ledger = 8

abbrev pub command_ledger : ℕ
command_ledger = 9

abbrev pub zeros : List ℕ
zeros = 0 ∷ 0 ∷ 0 ∷ 0 ∷ 0 ∷ 0 ∷ 0 ∷ 0 ∷ 0 ∷ 0 ∷ []

-- one ledger has so much more
abbrev pub plus : List ℕ → ℕ → ℕ → List ℕ
plus amounts ledger more = slice_set amounts ledger (slice_index amounts ledger + more)

-- two shares together, ledger by ledger
abbrev pub added : List ℕ → List ℕ → List ℕ
added [] ys = []
added (x ∷ xs) [] = x ∷ xs
added (x ∷ xs) (y ∷ ys) = (x + y) ∷ added xs ys

-- these amounts with all of these shares, where there is one
abbrev pub sums : List ℕ → List (Option (List ℕ)) → List ℕ
sums amounts [] = amounts
sums amounts (None ∷ shares) = sums amounts shares
sums amounts (Some s ∷ shares) = sums (added amounts s) shares
