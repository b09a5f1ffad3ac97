use Rattle.std.proofs.Common.{◌≡◌, ◌∙◌, subst, ap}
use Rattle.pcef_model.specs.Commands.{is_among}
use Rattle.pcef_model.specs.Journals.{slots}
use Rattle.pcef_usage.specs.Keys.{has_slot}
use Rattle.pcef_usage.proofs.Tells.{has_slot_is}
use Rattle.pcef_session.specs.SessionModel.{SessionModel}
use Rattle.pcef_session.proofs.state.SessionState.has_slot.Goals as goal

pub returns : goal.returns
returns c =
    let s = c.self.inside in
    subst (λ (v : SessionModel). c.has_slot.result ≡ is_among c.args.key.now (slots v.setting v.journal)) c.self.view_is
    (c.has_slot.ensures ∙ ap (has_slot c.args.key.now) c.usage.ensures ∙ has_slot_is c.args.key.now s.counted.states ∙ ap (is_among c.args.key.now) c.self.invariant.agrees.keys_are)
