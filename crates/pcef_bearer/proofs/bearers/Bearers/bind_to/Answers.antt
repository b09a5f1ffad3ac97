use Rattle.pcef_bearer.proofs.BindingKept.{kept_put_at}
use Rattle.pcef_bearer.proofs.bearers.Bearers.bind_to.Goals as goal

pub invariant_of-self : goal.invariant_of-self
invariant_of-self c = (
  rw c.put.ensures
      (kept_put_at
      (record { default_qos = c.self.inside.default_qos; capacity = c.self.inside.capacity; qcis = c.self.inside.qcis; bound = c.self.inside.bound.items })
      c.args.self.now c.args.name c.args.qos c.args.rates c.args.bearer.0 c.self.view_is c.self.invariant.0 c.requires.room c.requires.accepted c.requires.gets),
  c.self.invariant.1,
  c.self.invariant.2,
)
