use Rattle.std.proofs.Common.{◌≡◌, ◌∙◌, None, sym}
use Rattle.pcef_bearer.specs.BindingSteps.{id_excluding, without_bound}
use Rattle.pcef_bearer.proofs.GivenIds.{gets_id}
use Rattle.pcef_bearer.proofs.BindingKept.{accepted}
use Rattle.pcef_bearer.proofs.bearers.Bearers.set.Goals as goal

pub unreachable-requires : goal.unreachable-requires
unreachable-requires c =
    let passes = accepted c.args.self.now (without_bound c.args.name c.args.self.now.bound) c.args.qos.now c.args.rates
    (sym c.refusal_excluding.ensures ∙ c.in_default.is) in
    let none : None ≡ id_excluding c.args.self.now.default_qos c.args.self.now.bound (without_bound c.args.name c.args.self.now.bound) c.args.qos.now =
    rw c.in_default-bearer_excluding.is at c.bearer_excluding.ensures in
    gets_id c.args.self.now.default_qos c.args.name c.args.self.now.bound c.args.qos.now passes.0 (sym none)

pub bind_to-requires-clause-gets : goal.bind_to-requires-clause-gets
bind_to-requires-clause-gets c = sym (rw c.in-Some-bearer_excluding.is at c.bearer_excluding.ensures)
