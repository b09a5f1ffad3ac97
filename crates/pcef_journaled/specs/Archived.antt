-- What callers see of an archive.
use Rattle.std.specs.Prelude.{ℕ, Bool, List}
use Rattle.pcef_model.specs.declared.command.Command.{Command}
use Rattle.pcef_model.specs.declared.row.Row.{Row}

-- rows, the newest first, and how many more there is memory for
pub record Stored : Type 0 where
  pub rows : List Row
  pub room : ℕ

-- the rows and the commands, each the newest first; whether the rows are stored, or stand in contracts alone; and how many
-- more rows and commands there is memory for
pub record Archived : Type 0 where
  pub rows : List Row
  pub commands : List Command
  pub keeps : Bool
  pub room : ℕ
