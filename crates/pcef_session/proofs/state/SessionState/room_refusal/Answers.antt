use Rattle.std.proofs.Common.{◌∙◌, ap, subst, sym}
use Rattle.std.specs.Prelude.{Option}
use Rattle.std.specs.Option.{option_map}
use Rattle.pcef_rule.specs.declared.rule.Properties.{Properties}
use Rattle.pcef_model.specs.ActiveRules.{predefined}
use Rattle.pcef_model.specs.Setting.{offer_named}
use Rattle.pcef_session.specs.declared.prepared.Activation.{Activation}
use Rattle.pcef_session.specs.Preparing.{Activates}
use Rattle.pcef_session.specs.private.Sessions.{room_refusal}
use Rattle.pcef_session.proofs.RoomRates.{activate_room, install_room}
use Rattle.pcef_session.proofs.state.SessionState.room_refusal.Goals as goal

pub returns-in-Install : goal.returns-in-Install
returns-in-Install c =
    let v = c.args.self.now in
    rw c.in-Install.is
    (install_room v.setting v.journal c.in-Install.rule c.args.room c.over_room.result
    (c.over_room.ensures ∙ ap (λ (q : Properties). room_refusal v q c.args.room) c.properties.ensures))

pub returns-in-Some : goal.returns-in-Some
returns-in-Some c =
    let v = c.args.self.now in
    rw c.in-Activate.is
    (activate_room v.setting v.journal c.in-Activate.name c.in-Some.rule c.args.room c.over_room-in-Some.result
    (subst (λ (x : Option Activation). Activates v.setting (option_map predefined (offer_named v.setting c.in-Activate.name)) x) c.in-Some.is c.find_offered.ensures)
    (sym c.is_active.ensures ∙ c.if-is_active.false) c.over_room-in-Some.ensures)
