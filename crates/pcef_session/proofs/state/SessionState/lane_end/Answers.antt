use Rattle.std.proofs.Common.{ℕ, ◌≡◌, ◌∙◌, ◌≤◌, ◌<◌, [], List, sym, subst}
use Rattle.std.specs.Prelude.{MatchOption, IfNone, None, Option, Some}
use Rattle.pcef_model.specs.Entries.{Journal, lane}
use Rattle.pcef_model.specs.Journals.{attach_count}
use Rattle.pcef_model.specs.Lawful.{Lawful}
use Rattle.pcef_model.specs.Setting.{Setting}
use Rattle.pcef_model.specs.ProfileModel.{setting_of}
use Rattle.pcef_model.proofs.NewLanes.{past_lane}
use Rattle.pcef_journal.specs.declared.lanes.LaneEnd.{LaneEnd}
use Rattle.pcef_journal.specs.Lanes.{LanesAgree, end_of, lane_end}
use Rattle.pcef_journal.proofs.LaneEnds.{end_found}
use Rattle.pcef_session.specs.SessionModel.{SessionModel}
use Rattle.pcef_session.proofs.state.SessionState.lane_end.Goals as goal

-- a worker that was never attached has no rows
none_past : (p : Setting) (j : Journal) (worker : ℕ) (o : Option LaneEnd) (lanes : List LaneEnd) → Lawful p j → end_of lanes worker ≡ o → LanesAgree j lanes → IfNone o (lane j worker ≡ [])
none_past p j worker None lanes lawful is agree = past_lane p j worker lawful (subst (λ (o : Option LaneEnd). MatchOption o (attach_count j ≤ worker) (λ end. (worker < attach_count j) × (end ≡ lane_end j worker))) is (end_found j lanes worker agree))
none_past p j worker (Some end) lanes lawful is agree = tt

pub returns-clause-end : goal.returns-clause-end
returns-clause-end c =
    let s = c.self.inside in
    subst (λ (v : SessionModel). MatchOption c.copied.result (attach_count v.journal ≤ c.args.worker) (λ end. (c.args.worker < attach_count v.journal) × (end ≡ lane_end v.journal c.args.worker))) c.self.view_is
    (subst (λ (o : Option LaneEnd). MatchOption o (attach_count s.counted.journal ≤ c.args.worker) (λ end. (c.args.worker < attach_count s.counted.journal) × (end ≡ lane_end s.counted.journal c.args.worker)))
    (sym (c.copied.ensures ∙ c.get.ensures)) (end_found s.counted.journal s.lanes c.args.worker c.self.invariant.lanes))

pub returns-clause-none : goal.returns-clause-none
returns-clause-none c =
    let s = c.self.inside in
    subst (λ (v : SessionModel). IfNone c.copied.result (lane v.journal c.args.worker ≡ [])) c.self.view_is
    (none_past (setting_of s.profile s.listing) s.counted.journal c.args.worker c.copied.result s.lanes c.self.invariant.agrees.lawful
    (sym (c.copied.ensures ∙ c.get.ensures)) c.self.invariant.lanes)
