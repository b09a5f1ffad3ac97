use Rattle.std.proofs.Common.{◌≡◌, ◌≤◌, length, vec_capacity}
use Rattle.pcef_index.specs.private.Blocks.{AscendTo}
use Rattle.pcef_index.proofs.steps.starts_of.Given as goal

abbrev pub invariant-loop-octet : goal.invariant-loop-octet
invariant-loop-octet l = record {
  ascends : AscendTo l.next l.starts.items;
  within : l.next ≤ length l.ports;
  count : length l.starts.items ≡ l.octet;
  room : 257 ≤ vec_capacity l.starts;
}
