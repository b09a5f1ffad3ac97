use Rattle.std.proofs.Common.{◌≡◌, ◌≤◌, ◌-◌, ℕ, length}
use Rattle.pcef_index.specs.private.Bounds.{search}
use Rattle.pcef_index.proofs.steps.count_by_halves.Given as goal

abbrev pub invariant-loop-from : goal.invariant-loop-from
invariant-loop-from l = record {
  cuts : ℕ;
  enough : l.to - l.from ≤ cuts;
  found : search cuts l.ports l.port l.from l.to ≡ search (length l.ports) l.ports l.port 0 (length l.ports);
  ordered : l.from ≤ l.to;
  within : l.to ≤ length l.ports;
}

abbrev pub decreases-loop-from : goal.decreases-loop-from
decreases-loop-from l = l.to - l.from
