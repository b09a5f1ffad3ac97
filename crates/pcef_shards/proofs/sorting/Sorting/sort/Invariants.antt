use Rattle.std.specs.Prelude.{◌≡◌, ◌++◌, List, ℕ, length}
use Rattle.pcef_shards.specs.Sorted.{SortsOn}
use Rattle.pcef_shards.proofs.sorting.Sorting.sort.Given as goal

abbrev pub invariant-lines : goal.invariant-lines
invariant-lines l = record {
  front : List ℕ;
  whole : l.block ≡ front ++ l.rest;
  after : SortsOn l.initial.self l.self front;
}

abbrev pub decreases-lines : goal.decreases-lines
decreases-lines l = length l.rest
