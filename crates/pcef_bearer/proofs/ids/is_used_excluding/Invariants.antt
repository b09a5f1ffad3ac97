use Rattle.std.proofs.Common.{◌≡◌, ◌==◌, drop}
use Rattle.std.specs.List.{list_any}
use Rattle.pcef_bearer.specs.BindingSteps.{without_bound}
use Rattle.pcef_bearer.specs.declared.bearers.Bound.{Bound}
use Rattle.pcef_bearer.proofs.ids.is_used_excluding.Given as goal

abbrev pub invariant-loop-b : goal.invariant-loop-b
invariant-loop-b l =
    list_any (λ (b : Bound). l.id == b.bearer.0) (without_bound l.name (drop l.b-index l.bound))
    ≡ list_any (λ (b : Bound). l.id == b.bearer.0) (without_bound l.name l.bound)
