use Rattle.std.proofs.Common.{◌≡◌, ◌∙◌, ◌++◌, ap, subst}
use Rattle.pcef_model.specs.Journals.{now, subscribed}
use Rattle.pcef_model.specs.Reports.{requested, keys_ended, inactive, noticed_by}
use Rattle.pcef_session.specs.SessionModel.{SessionModel}
use Rattle.pcef_session.proofs.EndedKeys.{plan_is}
use Rattle.pcef_session.proofs.state.SessionState.plan.Goals as goal

pub returns : goal.returns
returns c =
    let v = c.args.self.now in
    let command = c.args.command.now in
    let triggers = subst (λ (m : SessionModel). c.self.inside.subscribed ≡ subscribed m.journal) c.self.view_is c.self.invariant.agrees.triggers_are in
    c.in_ok-add_noticed.ensures
    ∙ ap (λ ts. ts ++ noticed_by c.self.inside.subscribed command)
    (c.in_ok-add_requested.ensures
    ∙ ap (λ ts. ts ++ requested command) (c.in_ok-add_ended.ensures ∙ ap (λ ts. ts ++ keys_ended v.setting v.journal command) c.in_ok-reports.ensures))
    ∙ ap (λ set. ((inactive (now v.setting v.journal) command ++ keys_ended v.setting v.journal command) ++ requested command) ++ noticed_by set command) triggers
    ∙ plan_is v.setting v.journal command
