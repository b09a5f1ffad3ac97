use Rattle.std.proofs.Common.{◌≡◌, ◌∙◌, subst, ap}
use Rattle.std.specs.Option.{option_copied}
use Rattle.pcef_usage.specs.Keys.{finds_no_place as slotless}
use Rattle.pcef_session.specs.SessionModel.{SessionModel}
use Rattle.pcef_model.specs.Refusals.{finds_no_slot}
use Rattle.pcef_model.specs.ProfileModel.{setting_of}
use Rattle.pcef_session.proofs.Refused.{slotless_is}
use Rattle.pcef_session.proofs.state.SessionState.finds_no_slot.Goals as goal

pub returns : goal.returns
returns c =
    subst (λ (v : SessionModel). c.finds_no_slot.result ≡ finds_no_slot v.setting v.journal (option_copied c.args.key)) c.self.view_is
    (c.finds_no_slot.ensures ∙ ap (slotless (option_copied c.args.key)) c.usage.ensures ∙
    slotless_is (setting_of c.self.inside.profile c.self.inside.listing) c.self.inside.counted.journal (option_copied c.args.key) c.self.inside.counted.states c.self.invariant.agrees.keys_are)
