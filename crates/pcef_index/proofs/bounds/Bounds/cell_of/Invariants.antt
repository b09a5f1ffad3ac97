use Rattle.std.proofs.Common.{◌≡◌, ◌≤◌, ◌-◌, ℕ, length}
use Rattle.pcef_index.specs.private.Bounds.{bound_cell, search}
use Rattle.pcef_index.proofs.bounds.Bounds.cell_of.Given as goal

abbrev pub invariant-loop-from : goal.invariant-loop-from
invariant-loop-from l = record {
  cuts : ℕ;
  enough : l.to - l.from ≤ cuts;
  found : search cuts l.self.ends.items l.address l.from l.to ≡ bound_cell l.self.ends.items l.address;
  ordered : l.from ≤ l.to;
  within : l.to ≤ length l.self.ends.items;
}

abbrev pub decreases-loop-from : goal.decreases-loop-from
decreases-loop-from l = l.to - l.from
