use Rattle.std.proofs.Common.{◌≡◌, ◌∙◌, filter, length, subst, sym}
use Rattle.pcef_model.specs.Journals.{attached}
use Rattle.pcef_journal.specs.declared.lanes.LaneEnd.{LaneEnd}
use Rattle.pcef_journal.proofs.LaneEnds.{attached_len}
use Rattle.pcef_session.specs.SessionModel.{SessionModel}
use Rattle.pcef_session.proofs.state.SessionState.attached_count.Goals as goal

pub returns-clause-number : goal.returns-clause-number
returns-clause-number c =
    let s = c.self.inside in
    let many : length (attached c.args.self.now.journal) ≡ length (filter (λ (e : LaneEnd). e.attached) s.lanes) =
    subst (λ (v : SessionModel). length (attached v.journal) ≡ length (filter (λ (e : LaneEnd). e.attached) s.lanes)) c.self.view_is
    (attached_len s.counted.journal s.lanes c.self.invariant.lanes) in
    c.attached_count.ensures.number ∙ sym many
