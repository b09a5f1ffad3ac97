use Rattle.std.proofs.Common.{◌≡◌, ◌∙◌, subst, ap, Some}
use Rattle.pcef_model.specs.Commands.{is_among}
use Rattle.pcef_model.specs.Journals.{now}
use Rattle.pcef_session.specs.SessionModel.{SessionModel}
use Rattle.pcef_session.specs.private.Keys.{is_on}
use Rattle.pcef_model.specs.ProfileModel.{setting_of}
use Rattle.pcef_session.proofs.NextTables.{on_is}
use Rattle.pcef_session.proofs.state.SessionState.is_on.Goals as goal

pub returns : goal.returns
returns c =
    let s = c.self.inside in
    subst (λ (v : SessionModel). c.is_on.result ≡ is_among c.args.key.now (now v.setting v.journal).on) c.self.view_is
    (c.is_on.ensures ∙ ap (is_on (Some c.args.key.now)) c.usage.ensures ∙
    on_is (setting_of s.profile s.listing) s.counted.journal s.counted.states (Some c.args.key.now) c.self.invariant.agrees.keys_are c.self.invariant.agrees.usage_is)
