use Rattle.std.proofs.Common.{sym}
use Rattle.pcef_model.proofs.Rooms.{accepted_within}
use Rattle.pcef_session.proofs.state.SessionState.prepare_in.Goals as goal

pub ready-requires-clause-accepted : goal.ready-requires-clause-accepted
ready-requires-clause-accepted c = accepted_within c.args.self.now.setting c.args.self.now.journal c.args.command c.args.room (sym c.in_default.ensures)
