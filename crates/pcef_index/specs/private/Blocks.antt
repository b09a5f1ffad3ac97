-- Words of blocks of 64 lines, by rows.
use Rattle.std.specs.Prelude.{ℕ, ◌+◌, ◌-◌, ◌*◌, ◌≡◌, ◌≤◌, ◌<◌, List, get_or, length}
use Rattle.pcef_index.specs.declared.blocks.BlockWords.{BlockWords}
use Rattle.pcef_index.specs.declared.blocks.Layout.{Layout}
use Rattle.pcef_index.specs.private.Words.{Has}

-- places ascend, and none is above a number
pub record AscendTo (most : ℕ) (places : List ℕ) : Type 0 where
  pub ordered : (j k : ℕ) → j ≤ k → k < length places → get_or places j 0 ≤ get_or places k 0
  pub below : (k : ℕ) → k < length places → get_or places k 0 ≤ most

-- each row of so many blocks has a place
pub record IsLaid (blocks : ℕ) (l : Layout) : Type 0 where
  pub long : length l.places.items ≡ l.rows * blocks
  pub placed : AscendTo l.next l.places.items

-- each row of so many blocks has a word
pub record HaveWords (blocks : ℕ) (w : BlockWords) : Type 0 where
  pub some : 0 < length w.words.items
  pub long : length w.places.items ≡ w.rows * blocks
  pub placed : AscendTo (length w.words.items - 1) w.places.items

-- where the word of a block's row stands
abbrev pub word_at : BlockWords → ℕ → ℕ → ℕ
word_at w block row = get_or w.places.items (w.rows * block + row) 0

-- the word of a block's row is there
pub record HasWord (w : BlockWords) (block row : ℕ) : Type 0 where
  pub place : w.rows * block + row < length w.places.items
  pub word : word_at w block row < length w.words.items

-- the word of a block's row has the bit of a line
abbrev pub HasBit : BlockWords → ℕ → ℕ → ℕ → Type 0
HasBit w block row i = Has w.words.items (word_at w block row) i
