use Rattle.std.specs.Prelude.{◌≡◌, ℕ, List, length}
use Rattle.std.specs.Io.KnownBytes.{Consumes}
use Rattle.pcef_shards.specs.Sorted.{IsSorted}
use Rattle.pcef_shards.specs.Ways.{led_to}
use Rattle.pcef_shards.proofs.feeding.lead.Given as goal

abbrev pub invariant-loop : goal.invariant-loop
invariant-loop g l = record {
  input : List ℕ;
  read : Consumes (g.R.Read.remaining l.fn.reader) (g.R.Read.remaining l.reader) input;
  many : length l.lanes ≡ length l.fn.lanes;
  sorted : IsSorted l.fn.sorting.picking.keys (length l.fn.lanes) (led_to l.lanes) l.sorting input;
  room : length l.block ≡ 65536;
}
