use Rattle.std.proofs.Common.{◌≡◌, drop, find}
use Rattle.pcef_model.specs.Setting.{same_qos}
use Rattle.pcef_bearer.specs.declared.bearers.Bound.{Bound}
use Rattle.pcef_bearer.proofs.lookup.of_pair.Given as goal

abbrev pub invariant-loop-b : goal.invariant-loop-b
invariant-loop-b l =
    find (λ (b : Bound). same_qos l.qos b.qos) (drop l.b-index l.bound) ≡ find (λ (b : Bound). same_qos l.qos b.qos) l.bound
