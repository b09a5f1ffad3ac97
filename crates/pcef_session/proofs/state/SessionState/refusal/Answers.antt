use Rattle.std.proofs.Common.{◌∙◌, sym}
use Rattle.pcef_model.specs.Refusals.{first_refusals, own_refusals}
use Rattle.pcef_session.proofs.Refused.{first_after, first_before}
use Rattle.pcef_session.proofs.state.SessionState.refusal.Goals as goal

pub returns-in-Some : goal.returns-in-Some
returns-in-Some c =
    let v = c.args.self.now in
    first_before (first_refusals v.setting v.journal c.args.command.now) (own_refusals v.setting v.journal c.args.command.now) c.in-Some.refusal c.in-Some.ensures

pub returns : goal.returns
returns c =
    let v = c.args.self.now in
    c.own_refusal.ensures
    ∙ sym (first_after (first_refusals v.setting v.journal c.args.command.now) (own_refusals v.setting v.journal c.args.command.now) c.in_default.ensures)
