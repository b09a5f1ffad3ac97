use Rattle.std.proofs.Common.{◌≡◌, length}
use Rattle.pcef_index.specs.private.Bases.{AreReaches}
use Rattle.pcef_index.proofs.based.reaches_of.Given as goal

abbrev pub invariant-loop-place : goal.invariant-loop-place
invariant-loop-place l = record {
  long : length l.reaches.items ≡ l.place;
  reaches : AreReaches l.older l.reaches.items;
}
