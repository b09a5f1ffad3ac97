use Rattle.std.proofs.Common.{◌∙◌, ap, sym}
use Rattle.pcef_bearer.specs.BindingSteps.{id_number, without_bound}
use Rattle.pcef_bearer.proofs.GivenIds.{gets_id}
use Rattle.pcef_bearer.proofs.BindingKept.{accepted}
use Rattle.pcef_session.proofs.entries.bearer_for.Goals as goal

pub unreachable-requires : goal.unreachable-requires
unreachable-requires c =
    let b = c.args.bearers.now in
    let rule = c.args.rule.now in
    let passes = accepted b (without_bound rule.name b.bound) rule.qos rule.rates c.requires in
    gets_id b.default_qos rule.name b.bound rule.qos passes.0 (sym c.bearer_for.ensures ∙ ap id_number c.in-None.is)

pub returns : goal.returns
returns c = sym c.bearer_for.ensures ∙ ap id_number c.in-Some.is
