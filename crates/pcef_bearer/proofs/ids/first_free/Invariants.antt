use Rattle.std.proofs.Common.{◌≡◌, ◌==◌, ℕ, drop, find, not}
use Rattle.std.specs.List.{list_any}
use Rattle.pcef_bearer.specs.BindingSteps.{without_bound}
use Rattle.pcef_bearer.specs.declared.bearers.Bound.{Bound}
use Rattle.pcef_bearer.proofs.ids.first_free.Given as goal

abbrev pub invariant-loop-id : goal.invariant-loop-id
invariant-loop-id l =
    find (λ (id : ℕ). not (list_any (λ (b : Bound). id == b.bearer.0) (without_bound l.name l.bound))) (drop l.id-index l.ids)
    ≡ find (λ (id : ℕ). not (list_any (λ (b : Bound). id == b.bearer.0) (without_bound l.name l.bound))) l.ids
