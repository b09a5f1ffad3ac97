use Rattle.std.proofs.Common.{◌≡◌, ◌+◌, drop}
use Rattle.pcef_bearer.specs.Bindings.{bound_down, bound_up}
use Rattle.pcef_bearer.specs.BindingSteps.{without_bound}
use Rattle.pcef_bearer.proofs.rates.sums_excluding.Given as goal

abbrev pub invariant-loop-b : goal.invariant-loop-b
invariant-loop-b l = record {
  up : l.up + bound_up (without_bound l.name (drop l.b-index l.bound)) ≡ bound_up (without_bound l.name l.bound);
  down : l.down + bound_down (without_bound l.name (drop l.b-index l.bound)) ≡ bound_down (without_bound l.name l.bound);
}
