use Rattle.std.proofs.Common.{◌≡◌, ◌∙◌, subst, ap}
use Rattle.pcef_bearer.specs.Bindings.{Binding}
use Rattle.pcef_bearer.specs.BindingSteps.{binding_refusals as bound_refusals, without_bound as bound_without}
use Rattle.pcef_model.specs.ActiveRules.{without}
use Rattle.pcef_model.specs.Journals.{now}
use Rattle.pcef_session.specs.SessionModel.{SessionModel}
use Rattle.pcef_model.specs.Refusals.{bindings, first_of}
use Rattle.pcef_model.specs.ProfileModel.{setting_of}
use Rattle.pcef_bearer.proofs.BoundBearers.{refusals_bound}
use Rattle.pcef_session.proofs.state.SessionState.bind_refusal.Goals as goal

pub returns : goal.returns
returns c =
    let p = setting_of c.self.inside.profile c.self.inside.listing in
    let g = now p c.self.inside.counted.journal in
    let rule = c.args.rule.now in
    subst (λ (v : SessionModel). c.refusal.result ≡ first_of (bindings v.setting (now v.setting v.journal) rule (without rule.name (now v.setting v.journal).rules))) c.self.view_is
    (c.refusal.ensures ∙ ap (λ (b : Binding). first_of (bound_refusals b (bound_without rule.name b.bound) rule.qos rule.rates)) c.self.invariant.agrees.binding_is ∙ refusals_bound p g rule)
