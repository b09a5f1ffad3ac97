use Rattle.std.proofs.Common.{◌≡◌, drop, find}
use Rattle.pcef_bearer.specs.Bindings.{is_bound_as}
use Rattle.pcef_bearer.proofs.lookup.bound_under.Given as goal

abbrev pub invariant-loop-b : goal.invariant-loop-b
invariant-loop-b l = find (is_bound_as l.name) (drop l.b-index l.bound) ≡ find (is_bound_as l.name) l.bound
