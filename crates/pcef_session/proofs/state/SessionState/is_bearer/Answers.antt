use Rattle.std.proofs.Common.{◌≡◌, ◌∙◌, ◌==◌, ap, subst}
use Rattle.std.specs.List.{list_any}
use Rattle.pcef_bearer.specs.Bindings.{Binding}
use Rattle.pcef_bearer.specs.declared.bearers.Bound.{Bound}
use Rattle.pcef_model.specs.Journals.{now}
use Rattle.pcef_model.specs.Refusals.{is_bearer}
use Rattle.pcef_model.specs.ProfileModel.{setting_of}
use Rattle.pcef_session.specs.SessionModel.{SessionModel}
use Rattle.pcef_session.proofs.EndedKeys.{bearer_bound}
use Rattle.pcef_session.proofs.state.SessionState.is_bearer.Goals as goal

pub returns : goal.returns
returns c =
    let s = c.self.inside in
    let p = setting_of s.profile s.listing in
    let g = now p s.counted.journal in
    subst (λ (v : SessionModel). c.is_bearer.result ≡ is_bearer v.setting v.journal c.args.bearer.0) c.self.view_is
    (c.is_bearer.ensures ∙ ap (list_any (λ (b : Bound). b.bearer.0 == c.args.bearer.0)) c.bound.ensures.bound
    ∙ ap (λ (b : Binding). list_any (λ (x : Bound). x.bearer.0 == c.args.bearer.0) b.bound) c.self.invariant.agrees.binding_is
    ∙ bearer_bound g c.args.bearer.0 g.rules)
