use Rattle.std.proofs.Common.{◌-◌, ◌≤◌, length}
use Rattle.pcef_index.proofs.steps.end_of.Given as goal

abbrev pub invariant-loop-end : goal.invariant-loop-end
invariant-loop-end l = record {
  ordered : l.from ≤ l.end;
  within : l.end ≤ length l.ports;
}

abbrev pub decreases-loop-end : goal.decreases-loop-end
decreases-loop-end l = length l.ports - l.end
