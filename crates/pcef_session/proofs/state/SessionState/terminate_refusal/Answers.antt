use Rattle.std.proofs.Common.{◌≡◌, ◌∙◌, sym, subst, Some, None}
use Rattle.pcef_model.specs.declared.command.Command.TheVariants.{Terminate}
use Rattle.pcef_model.specs.declared.answer.Refusal.TheVariants.{WorkersAttached}
use Rattle.pcef_model.specs.Refusals.{first_of, own_refusals}
use Rattle.pcef_model.specs.ProfileModel.{setting_of}
use Rattle.pcef_journal.proofs.LaneEnds.{attached_len}
use Rattle.pcef_session.specs.SessionModel.{SessionModel}
use Rattle.pcef_session.proofs.Leaving.{terminate_free, terminate_refused}
use Rattle.pcef_session.proofs.state.SessionState.terminate_refusal.Goals as goal

pub returns-then-attached-gt0 : goal.returns-then-attached-gt0
returns-then-attached-gt0 c =
    let s = c.self.inside in
    subst (λ (v : SessionModel). Some (WorkersAttached c.attached_count-attached.result) ≡ first_of (own_refusals v.setting v.journal Terminate)) c.self.view_is
    (terminate_refused (setting_of s.profile s.listing) s.counted.journal c.attached_count-attached.result (c.attached_count-attached.ensures.number ∙ sym (attached_len s.counted.journal s.lanes c.self.invariant.lanes)) c.if-attached-gt0.true)

pub returns-else-attached-gt0 : goal.returns-else-attached-gt0
returns-else-attached-gt0 c =
    let s = c.self.inside in
    subst (λ (v : SessionModel). None ≡ first_of (own_refusals v.setting v.journal Terminate)) c.self.view_is
    (terminate_free (setting_of s.profile s.listing) s.counted.journal c.attached_count-attached.result (c.attached_count-attached.ensures.number ∙ sym (attached_len s.counted.journal s.lanes c.self.invariant.lanes)) c.if-attached-gt0.false)
