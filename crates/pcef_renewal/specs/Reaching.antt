-- The grant of a key that was on without one.
use Rattle.std.specs.Prelude.{ℕ, ◌≡◌, ◌≤◌, ◌<◌, ◌^◌, false, List, Some, All}
use Rattle.pcef_model.specs.declared.row.Row.{Row}
use Rattle.pcef_model.specs.Entries.{Journal, rows}
use Rattle.pcef_model.specs.Journals.{grant}
use Rattle.pcef_model.specs.Lawful.{Lawful}
use Rattle.pcef_model.specs.Reports.{is_reached}
use Rattle.pcef_model.specs.Setting.{Setting}
use Rattle.pcef_renewal.specs.Renewal.{out_of_reach}

-- a session has at most 2^32 - 1 rows, of fewer than 2^32 octets each
pub record HasSmallRows (p : Setting) (j : Journal) : Type 0 where
  pub few : p.rows ≤ 4294967295
  pub small : All (λ (r : Row). r.header.octets < 2 ^ 32) (rows j)

-- so it doesn't reach this grant
abbrev pub OutOfReachIsNotReached : Type 0
OutOfReachIsNotReached = (p : Setting) (j : Journal) → Lawful p j → HasSmallRows p j → (key : List ℕ) → grant j key ≡ Some out_of_reach → is_reached p j key ≡ false
