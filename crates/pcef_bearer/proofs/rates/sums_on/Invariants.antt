use Rattle.std.proofs.Common.{◌≡◌, ◌+◌, drop}
use Rattle.pcef_bearer.specs.Bindings.{rules_on, bound_down, bound_up}
use Rattle.pcef_bearer.proofs.rates.sums_on.Given as goal

abbrev pub invariant-loop-b : goal.invariant-loop-b
invariant-loop-b l = record {
  up : l.up + bound_up (rules_on l.id.0 (drop l.b-index l.bound)) ≡ bound_up (rules_on l.id.0 l.bound);
  down : l.down + bound_down (rules_on l.id.0 (drop l.b-index l.bound)) ≡ bound_down (rules_on l.id.0 l.bound);
}
