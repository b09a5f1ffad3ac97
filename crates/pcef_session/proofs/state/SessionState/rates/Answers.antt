use Rattle.std.proofs.Common.{◌≡◌, ◌∙◌, subst, ap}
use Rattle.pcef_bearer.specs.Bindings.{Binding}
use Rattle.pcef_bearer.specs.BindingSteps.{bound_total}
use Rattle.pcef_model.specs.Journals.{now}
use Rattle.pcef_model.specs.ProfileModel.{setting_of}
use Rattle.pcef_model.specs.Refusals.{total_now}
use Rattle.pcef_session.specs.SessionModel.{SessionModel}
use Rattle.pcef_session.proofs.RoomRates.{all_bound}
use Rattle.pcef_session.proofs.state.SessionState.rates.Goals as goal

pub returns : goal.returns
returns c =
    let p = setting_of c.self.inside.profile c.self.inside.listing in
    let g = now p c.self.inside.counted.journal in
    subst (λ (v : SessionModel). c.total.result ≡ total_now v.setting v.journal) c.self.view_is
    (c.total.ensures ∙ ap (λ (b : Binding). bound_total b.bound) c.self.invariant.agrees.binding_is ∙ all_bound g)
