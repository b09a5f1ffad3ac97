use Rattle.std.proofs.Common.{◌≡◌, arith, filter, length, subst}
use Rattle.std.proofs.lemmas.Result.{on_ok_weaker}
use Rattle.pcef_model.specs.Journals.{attached}
use Rattle.pcef_journal.specs.declared.lanes.LaneEnd.{LaneEnd}
use Rattle.pcef_journal.proofs.LaneEnds.{attached_len}
use Rattle.pcef_session.specs.SessionModel.{SessionModel}
use Rattle.pcef_session.proofs.state.SessionState.take_room.Goals as goal

pub returns-clause-entries : goal.returns-clause-entries
returns-clause-entries c =
    let s = c.self.inside in
    let many : length (attached c.args.self.now.journal) ≡ length (filter (λ (e : LaneEnd). e.attached) s.lanes) =
    subst (λ (v : SessionModel). length (attached v.journal) ≡ length (filter (λ (e : LaneEnd). e.attached) s.lanes)) c.self.view_is
    (attached_len s.counted.journal s.lanes c.self.invariant.lanes) in
    on_ok_weaker c.reserve-2.result (λ enough. omega (arith, enough, many, c.attached_count.ensures.number)) c.reserve-2.ensures.room
