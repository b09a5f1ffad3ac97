use Rattle.std.proofs.Common.{◌∙◌}
use Rattle.pcef_session.proofs.RoomRates.{within_after, within_before}
use Rattle.pcef_session.proofs.state.SessionState.refusal_within.Goals as goal

pub returns-in-Some : goal.returns-in-Some
returns-in-Some c =
    let v = c.args.self.now in
    within_before v.setting v.journal c.args.command.now c.args.room c.in-Some.refusal c.in-Some.ensures

pub returns-in-Some-room : goal.returns-in-Some-room
returns-in-Some-room c =
    let v = c.args.self.now in
    rw c.in-Some-room.is (c.room_refusal.ensures ∙ within_after v.setting v.journal c.args.command.now c.in-Some-room.room c.in_default.ensures)
