use Rattle.std.proofs.Common.{◌≡◌, arith, length, sym, subst}
use Rattle.pcef_model.specs.Journals.{attach_count}
use Rattle.pcef_journal.proofs.LaneEnds.{lanes_count}
use Rattle.pcef_session.specs.SessionModel.{SessionModel}
use Rattle.pcef_session.proofs.state.SessionState.workers_left.Goals as goal

pub returns : goal.returns
returns c =
    let s = c.self.inside in
    let count : attach_count c.args.self.now.journal ≡ length s.lanes =
    subst (λ (v : SessionModel). attach_count v.journal ≡ length s.lanes) c.self.view_is (sym (lanes_count s.counted.journal s.lanes c.self.invariant.lanes)) in
    omega (arith, c.saturating_sub.ensures, c.len.ensures, count)
