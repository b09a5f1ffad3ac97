-- What an index keeps of its rules.
use Rattle.std.specs.Prelude.{ℕ, ◌<◌, ◌≤◌, ◌⊎◌, IfSome, List, Option, Some, None, length}
use Rattle.pcef_table.specs.declared.entry.Source.{Source}
use Rattle.pcef_table.specs.Tables.{most_entries}
use Rattle.pcef_index.specs.declared.based.Based.{Based}
use Rattle.pcef_index.specs.declared.based.Newer.{Newer}
use Rattle.pcef_index.specs.declared.part.Part.{Part}
use Rattle.pcef_index.specs.private.Bases.{AreReaches, HasPlace, IsPart}

abbrev pub HasPlaceIn : Option Newer → ℕ → Type 0
HasPlaceIn None k = ⊥
HasPlaceIn (Some n) k = HasPlace n.part k

-- newer rules, of which it is known which older ones stand before them
pub record IsNewer (sources : List Source) (older : Part) (n : Newer) : Type 0 where
  pub part : IsPart sources n.part
  pub reaches : AreReaches older n.reaches.items

-- each rule stands in one of the parts
pub record IsBased (sources : List Source) (b : Based) : Type 0 where
  pub older : IsPart sources b.older
  pub newer : IfSome b.newer (IsNewer sources b.older)
  pub all : (k : ℕ) → k < length sources → HasPlace b.older k ⊎ HasPlaceIn b.newer k

-- the rules are at most as many as a table has, and the parts are theirs, where there are any
pub record IsIndexed (sources : List Source) (kept : Option Based) : Type 0 where
  pub few : length sources ≤ most_entries
  pub based : IfSome kept (IsBased sources)
