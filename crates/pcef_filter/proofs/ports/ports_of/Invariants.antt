use Rattle.std.proofs.Common.{◌≤◌, length}
use Rattle.pcef_filter.proofs.ListLaws.{Reads, left_len}
use Rattle.pcef_filter.proofs.ports.ports_of.Given as goal

abbrev pub invariant-loop-left : goal.invariant-loop-left
invariant-loop-left l = record {
  read : Reads l.fn.token l.ranges.items l.left;
  room : length l.ranges.items ≤ 8;
}

abbrev pub decreases-loop-left : goal.decreases-loop-left
decreases-loop-left l = left_len l.left
