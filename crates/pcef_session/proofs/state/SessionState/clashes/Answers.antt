use Rattle.std.proofs.Common.{◌≡◌, ◌∙◌, subst, ap}
use Rattle.std.specs.Option.{option_copied}
use Rattle.pcef_usage.specs.Keys.{level_clashes as key_clashes}
use Rattle.pcef_usage.proofs.Levels.{clashes_is}
use Rattle.pcef_session.specs.SessionModel.{SessionModel}
use Rattle.pcef_model.specs.Refusals.{clashes}
use Rattle.pcef_model.specs.ProfileModel.{setting_of}
use Rattle.pcef_session.proofs.NextTables.{all_levels_from}
use Rattle.pcef_session.proofs.state.SessionState.clashes.Goals as goal

pub returns : goal.returns
returns c =
    let s = c.self.inside in
    let p = setting_of s.profile s.listing in
    subst (λ (v : SessionModel). c.clashes.result ≡ clashes v.setting v.journal c.args.level (option_copied c.args.key)) c.self.view_is
    (c.clashes.ensures ∙ ap (key_clashes (option_copied c.args.key) c.args.level) c.usage.ensures ∙
    clashes_is p s.counted.journal (option_copied c.args.key) c.args.level s.counted.states c.self.invariant.agrees.keys_are
    (all_levels_from p s.counted.journal s.counted.states c.self.invariant.agrees.usage_is))
