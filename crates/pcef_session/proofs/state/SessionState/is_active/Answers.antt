use Rattle.std.proofs.Common.{◌≡◌, ◌∙◌, subst}
use Rattle.pcef_model.specs.Journals.{now}
use Rattle.pcef_session.specs.SessionModel.{SessionModel}
use Rattle.pcef_model.specs.Refusals.{is_active}
use Rattle.pcef_model.specs.ProfileModel.{setting_of}
use Rattle.pcef_session.proofs.KeptRules.{kept_name}
use Rattle.pcef_session.proofs.state.SessionState.is_active.Goals as goal

pub returns : goal.returns
returns c =
    let g = now (setting_of c.self.inside.profile c.self.inside.listing) c.self.inside.counted.journal in
    subst (λ (v : SessionModel). c.contains.result ≡ is_active v.setting v.journal c.args.name.now) c.self.view_is
    (c.contains.ensures ∙ kept_name c.self.inside.listing c.args.name.now c.self.inside.active.rules g.rules c.self.invariant.agrees.rules_are)
