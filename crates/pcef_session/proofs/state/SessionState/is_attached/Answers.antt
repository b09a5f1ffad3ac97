use Rattle.std.proofs.Common.{◌≡◌, ◌∙◌, sym, subst}
use Rattle.pcef_model.specs.Refusals.{is_attached}
use Rattle.pcef_journal.proofs.LaneEnds.{attached_is}
use Rattle.pcef_session.specs.SessionModel.{SessionModel}
use Rattle.pcef_session.proofs.state.SessionState.is_attached.Goals as goal

pub returns : goal.returns
returns c =
    let s = c.self.inside in
    subst (λ (v : SessionModel). c.is_attached.result ≡ is_attached v.journal c.args.worker) c.self.view_is
    (c.is_attached.ensures ∙ sym (attached_is s.counted.journal s.lanes c.args.worker c.self.invariant.lanes))
