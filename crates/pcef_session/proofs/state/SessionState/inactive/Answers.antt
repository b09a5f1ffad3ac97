use Rattle.std.proofs.Common.{◌≡◌, ◌∙◌, ap, subst}
use Rattle.std.specs.Prelude.{IfOk}
use Rattle.std.proofs.lemmas.Result.{IfOk-weaker}
use Rattle.pcef_model.specs.Journals.{now}
use Rattle.pcef_model.specs.Reports.{inactive}
use Rattle.pcef_session.specs.SessionModel.{SessionModel}
use Rattle.pcef_session.specs.private.Changes.{inactive_by}
use Rattle.pcef_session.specs.private.Soundness.{held_of}
use Rattle.pcef_session.proofs.EndedKeys.{inactive_is}
use Rattle.pcef_session.proofs.state.SessionState.inactive.Goals as goal

pub returns : goal.returns
returns c =
    let v = held_of c.self.inside in
    let command = c.args.command.now in
    subst (λ (m : SessionModel). IfOk c.inactive.result (λ w. w.items ≡ inactive (now m.setting m.journal) command)) c.self.view_is
    (IfOk-weaker c.inactive.result _ _
    (λ w is. is ∙ ap (λ bound. inactive_by bound command) c.bound.ensures.bound ∙ inactive_is v.setting (now v.setting v.journal) command c.self.inside.bearers c.self.invariant.agrees.binding_is)
    c.inactive.ensures)
