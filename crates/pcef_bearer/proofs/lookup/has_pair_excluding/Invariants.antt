use Rattle.std.proofs.Common.{◌≡◌, drop}
use Rattle.std.specs.List.{list_any}
use Rattle.pcef_model.specs.Setting.{same_qos}
use Rattle.pcef_bearer.specs.BindingSteps.{without_bound}
use Rattle.pcef_bearer.specs.declared.bearers.Bound.{Bound}
use Rattle.pcef_bearer.proofs.lookup.has_pair_excluding.Given as goal

abbrev pub invariant-loop-b : goal.invariant-loop-b
invariant-loop-b l =
    list_any (λ (b : Bound). same_qos l.qos b.qos) (without_bound l.name (drop l.b-index l.bound))
    ≡ list_any (λ (b : Bound). same_qos l.qos b.qos) (without_bound l.name l.bound)
