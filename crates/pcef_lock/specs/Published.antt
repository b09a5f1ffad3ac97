-- The tables that are published.
use Rattle.std.specs.Prelude.{ℕ, ◌≡◌, ◌+◌, ◌-◌, List, Some, length, slice_get, slice_set}
use Rattle.pcef_table.specs.Tables.{IsTable, TableValue}
use Rattle.pcef_model.specs.Setting.{Setting}
use Rattle.pcef_model.specs.Entries.{Journal}
use Rattle.pcef_model.specs.Journals.{gen}
use Rattle.pcef_session.specs.Shown.{Shows}

-- they show each generation from `first` to the newest, in order
pub record ArePublished (p : Setting) (j : Journal) (first : ℕ) (tables : List TableValue) : Type 0 where
  pub through : first + length tables ≡ gen j + 1
  pub shown : (n : ℕ) (t : TableValue) → slice_get tables n ≡ Some t → Shows p j (first + n) t

-- ---- for private clauses
-- a table that may come next after these
abbrev pub MayBeNext : Setting → ℕ → List TableValue → TableValue → Type 0
MayBeNext p first tables t = (t.number ≡ first + length tables) × IsTable p.catalog t.entries

-- a list whose last element is this
abbrev pub with_last : {A : Type 0} → List A → A → List A
with_last xs x = slice_set xs (length xs - 1) x
