use Rattle.std.proofs.Common.{◌≡◌, ◌∙◌, subst, ap}
use Rattle.pcef_bearer.specs.Bindings.{Binding}
use Rattle.pcef_bearer.specs.BindingSteps.{total_with}
use Rattle.pcef_model.specs.Journals.{now}
use Rattle.pcef_model.specs.ProfileModel.{setting_of}
use Rattle.pcef_model.specs.Refusals.{first_of, over_room}
use Rattle.pcef_session.specs.SessionModel.{SessionModel}
use Rattle.pcef_session.specs.private.Sessions.{room_refusal}
use Rattle.pcef_session.proofs.RoomRates.{rates_bound}
use Rattle.pcef_session.proofs.state.SessionState.over_room.Goals as goal

pub returns : goal.returns
returns c =
    let p = setting_of c.self.inside.profile c.self.inside.listing in
    let g = now p c.self.inside.counted.journal in
    let rule = c.args.rule.now in
    let room = c.args.room in
    subst (λ (v : SessionModel). c.room_refusal.result ≡ room_refusal v rule room) c.self.view_is
    (c.room_refusal.ensures ∙ ap (λ (b : Binding). first_of (over_room room (total_with b rule.name rule.rates))) c.self.invariant.agrees.binding_is
    ∙ ap (λ rates. first_of (over_room room rates)) (rates_bound p g rule))
