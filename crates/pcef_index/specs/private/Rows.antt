-- Rows by the intervals between the ends of ranges.
use Rattle.std.specs.Prelude.{ℕ, ◌+◌, ◌≡◌, Option, Some, None, length}
use Rattle.pcef_index.specs.declared.rows.Rows.{Rows}
use Rattle.pcef_index.specs.declared.steps.Steps.{Steps}
use Rattle.pcef_index.specs.private.Blocks.{HaveWords, HasBit}
use Rattle.pcef_index.specs.private.Starts.{cell_of}

-- how many steps are at or below a port
abbrev pub step_cell : Steps → ℕ → ℕ
step_cell steps port = cell_of steps.starts.items steps.ports.items port

-- each interval has a row in so many blocks
pub record AreRows (blocks : ℕ) (r : Rows) : Type 0 where
  pub rows : r.words.rows ≡ length r.steps.ports.items + 1
  pub words : HaveWords blocks r.words

-- the word of a block at the row of a number has a line's bit
abbrev pub LetsNumber : Rows → ℕ → ℕ → ℕ → Type 0
LetsNumber r block n i = HasBit r.words block (step_cell r.steps n) i

-- the row of a number, if there is one
abbrev pub row_of : Rows → Option ℕ → Option ℕ
row_of r None = None
row_of r (Some n) = Some (step_cell r.steps n)
