use Rattle.std.proofs.Common.{not}
use Rattle.pcef_model.specs.Commands.{takes_away}
use Rattle.pcef_bearer.proofs.BindingKept.{kept_part}
use Rattle.pcef_bearer.proofs.bearers.Bearers.take_away.Goals as goal

pub invariant_of-self : goal.invariant_of-self
invariant_of-self c = (
  rw c.drop_taken.ensures (kept_part (record { default_qos = c.self.inside.default_qos; capacity = c.self.inside.capacity; qcis = c.self.inside.qcis; bound = c.self.inside.bound.items }) (λ b. not (takes_away c.args.command.now b.name b.bearer.0)) c.self.invariant.0),
  c.self.invariant.1,
  c.self.invariant.2,
)
