use Rattle.std.proofs.Common.{◌≡◌, ◌+◌, drop}
use Rattle.pcef_handover.specs.Lanes.{continues}
use Rattle.pcef_handover.proofs.lanes.continues.Given as goal

abbrev pub invariant-loop-item : goal.invariant-loop-item
invariant-loop-item l = record {
  goes_on : continues l.worker l.fn.end.rows l.fn.end.newest_generation l.items ≡ continues l.worker l.rows l.generation (drop l.item-index l.items);
  rows : l.rows ≡ l.fn.end.rows + l.item-index;
}
