use Rattle.std.proofs.Common.{◌≡◌, arith, length, sym, subst}
use Rattle.std.specs.Prelude.{Some}
use Rattle.pcef_model.specs.Journals.{attach_count}
use Rattle.pcef_model.specs.Refusals.{attach_faults, first_of}
use Rattle.pcef_model.specs.declared.answer.AttachFault.TheVariants.{NoPlace}
use Rattle.pcef_journal.proofs.LaneEnds.{lanes_count}
use Rattle.pcef_session.specs.SessionModel.{SessionModel}
use Rattle.pcef_session.proofs.Leaving.{attach_accepted, attach_ended, attach_full}
use Rattle.pcef_session.proofs.state.SessionState.attach_fault.Goals as goal

pub returns-then-len-ge-MAX_WORKERS : goal.returns-then-len-ge-MAX_WORKERS
returns-then-len-ge-MAX_WORKERS c =
    let s = c.self.inside in
    subst (λ (v : SessionModel). Some NoPlace ≡ first_of (attach_faults v.journal)) c.self.view_is
    (attach_full s.counted.journal (omega (arith, c.if-len-ge-MAX_WORKERS.true, c.len.ensures, lanes_count s.counted.journal s.lanes c.self.invariant.lanes)))

pub returns-then-is_ended : goal.returns-then-is_ended
returns-then-is_ended c =
    let s = c.self.inside in
    let count : attach_count c.args.self.now.journal ≡ length s.lanes =
    subst (λ (v : SessionModel). attach_count v.journal ≡ length s.lanes) c.self.view_is (sym (lanes_count s.counted.journal s.lanes c.self.invariant.lanes)) in
    attach_ended c.args.self.now.journal (omega (arith, c.if-len-ge-MAX_WORKERS.false, c.len.ensures, count)) (sym c.if-is_ended.ensures)

pub returns : goal.returns
returns c =
    let s = c.self.inside in
    let count : attach_count c.args.self.now.journal ≡ length s.lanes =
    subst (λ (v : SessionModel). attach_count v.journal ≡ length s.lanes) c.self.view_is (sym (lanes_count s.counted.journal s.lanes c.self.invariant.lanes)) in
    attach_accepted c.args.self.now.journal (omega (arith, c.if-len-ge-MAX_WORKERS.false, c.len.ensures, count)) (sym c.if-is_ended.ensures)
