use Rattle.std.proofs.Common.{◌≡◌, length}
use Rattle.pcef_journaled.specs.KeptRows.{ArePlaced, lane_in}
use Rattle.pcef_journaled.proofs.walk.LaneIterator.next.Given as goal

abbrev pub invariant-loop-first : goal.invariant-loop-first
invariant-loop-first l = record {
  left : lane_in l.self-inside.worker l.self-inside.names.now l.self-inside.rest.now
      ≡ lane_in l.initial.self-inside.worker l.initial.self-inside.names.now l.initial.self-inside.rest.now;
  placed : ArePlaced (length l.self-inside.names.now) l.self-inside.rest.now;
}

abbrev pub decreases-loop-first : goal.decreases-loop-first
decreases-loop-first l = length l.self-inside.rest.now
