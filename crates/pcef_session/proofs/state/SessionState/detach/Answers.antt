use Rattle.std.proofs.Common.{◌≡◌, refl, subst, sym, true}
use Rattle.pcef_model.specs.Refusals.{is_attached}
use Rattle.pcef_journal.proofs.LaneEnds.{attached_came}
use Rattle.pcef_session.specs.SessionModel.{SessionModel}
use Rattle.pcef_session.proofs.InvariantKept.{sound_left}
use Rattle.pcef_session.proofs.state.SessionState.detach.Goals as goal

pub leave-requires : goal.leave-requires
leave-requires c =
    let is = subst (λ (v : SessionModel). is_attached v.journal c.args.worker ≡ true) (sym c.self.view_is) c.requires in
    attached_came c.self.inside.counted.journal c.self.inside.lanes c.args.worker c.self.invariant.lanes is

pub invariant_of-self : goal.invariant_of-self
invariant_of-self c =
    let is = subst (λ (v : SessionModel). is_attached v.journal c.args.worker ≡ true) (sym c.self.view_is) c.requires in
    sound_left c.self.inside _ c.args.worker c.self.invariant is refl refl c.enter.ensures.journal c.enter.ensures.states refl refl refl refl c.leave.ensures refl refl c.enter.ensures.room
