use Rattle.std.proofs.Common.{◌≡◌, ◌==◌, drop, find}
use Rattle.pcef_bearer.specs.declared.bearers.Bound.{Bound}
use Rattle.pcef_bearer.proofs.ids.first_on.Given as goal

abbrev pub invariant-loop-b : goal.invariant-loop-b
invariant-loop-b l =
    find (λ (b : Bound). b.bearer.0 == l.id.0) (drop l.b-index l.bound) ≡ find (λ (b : Bound). b.bearer.0 == l.id.0) l.bound
