use Rattle.std.proofs.Common.{◌∙◌, not, sym}
use Rattle.pcef_bearer.specs.Bindings.{is_bound_as}
use Rattle.pcef_bearer.proofs.BindingKept.{kept_part, without_absent}
use Rattle.pcef_bearer.proofs.bearers.Bearers.unbind.Goals as goal

pub returns-in_default-clause-bound : goal.returns-in_default-clause-bound
returns-in_default-clause-bound c = without_absent c.args.self.now c.args.name.now (sym c.bearer_of.ensures ∙ c.in_default.is)

pub invariant_of-self : goal.invariant_of-self
invariant_of-self c = (
  rw c.drop_named.ensures (kept_part (record { default_qos = c.self.inside.default_qos; capacity = c.self.inside.capacity; qcis = c.self.inside.qcis; bound = c.self.inside.bound.items }) (λ b. not (is_bound_as c.args.name.now b)) c.self.invariant.0),
  c.self.invariant.1,
  c.self.invariant.2,
)
