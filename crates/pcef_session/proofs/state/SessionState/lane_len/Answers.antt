use Rattle.std.proofs.Common.{◌≡◌, ◌∙◌, subst}
use Rattle.pcef_model.specs.Journals.{lane_len}
use Rattle.pcef_model.specs.ProfileModel.{setting_of}
use Rattle.pcef_model.proofs.NewLanes.{past_lane}
use Rattle.pcef_journal.proofs.LaneEnds.{rows_is}
use Rattle.pcef_session.specs.SessionModel.{SessionModel}
use Rattle.pcef_session.proofs.state.SessionState.lane_len.Goals as goal

pub returns : goal.returns
returns c =
    let s = c.self.inside in
    subst (λ (v : SessionModel). c.rows.result ≡ lane_len v.journal c.args.worker) c.self.view_is
    (c.rows.ensures ∙ rows_is s.counted.journal s.lanes c.args.worker c.self.invariant.lanes
    (past_lane (setting_of s.profile s.listing) s.counted.journal c.args.worker c.self.invariant.agrees.lawful))
