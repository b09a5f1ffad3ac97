use Rattle.std.proofs.Common.{◌≡◌, drop}
use Rattle.pcef_usage.specs.Keys.{CanCount, with_octets}
use Rattle.pcef_usage.proofs.counted.count_for.Given as goal

abbrev pub invariant-loop-slot : goal.invariant-loop-slot
invariant-loop-slot l = record {
  fits : CanCount (drop l.slot-index l.slots) l.octets l.usage;
  states : with_octets (drop l.slot-index l.slots) l.octets l.usage ≡ with_octets l.slots l.octets l.initial.usage;
}
