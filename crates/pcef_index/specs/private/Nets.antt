-- Rows by the intervals between the ends of networks.
use Rattle.std.specs.Prelude.{ℕ, ◌+◌, ◌≡◌, length}
use Rattle.pcef_index.specs.declared.nets.Nets.{Nets}
use Rattle.pcef_index.specs.private.Blocks.{HaveWords, HasBit}
use Rattle.pcef_index.specs.private.Bounds.{bound_cell}

-- each interval has a row in so many blocks
pub record AreNets (blocks : ℕ) (n : Nets) : Type 0 where
  pub rows : n.words.rows ≡ length n.bounds.ends.items + 1
  pub words : HaveWords blocks n.words

-- the row of an address
abbrev pub net_row : Nets → ℕ → ℕ
net_row n address = bound_cell n.bounds.ends.items address

-- the word of a block at the row of an address has a line's bit
abbrev pub LetsNet : Nets → ℕ → ℕ → ℕ → Type 0
LetsNet n block address i = HasBit n.words block (net_row n address) i
