use Rattle.std.proofs.Common.{◌≡◌, ◌+◌, drop}
use Rattle.pcef_bearer.specs.Bindings.{bound_down, bound_up}
use Rattle.pcef_bearer.proofs.rates.sums_of_all.Given as goal

abbrev pub invariant-loop-b : goal.invariant-loop-b
invariant-loop-b l = record {
  up : l.up + bound_up (drop l.b-index l.bound) ≡ bound_up l.bound;
  down : l.down + bound_down (drop l.b-index l.bound) ≡ bound_down l.bound;
}
