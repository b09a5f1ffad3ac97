use Rattle.std.proofs.Common.{◌≡◌, ◌∙◌, [], ◌∷◌, ap, arith, refl, sym, subst}
use Rattle.pcef_model.specs.declared.entry.Entry.TheVariants as entry
use Rattle.pcef_model.specs.Entries.{Journal, lane}
use Rattle.pcef_model.specs.Refusals.{attach_faults, first_of}
use Rattle.pcef_model.specs.ProfileModel.{setting_of}
use Rattle.pcef_model.proofs.NewLanes.{new_lane}
use Rattle.std.specs.Prelude.{Err, None, Ok}
use Rattle.pcef_model.specs.Outcomes.{AttachStep}
use Rattle.pcef_model.specs.declared.answer.AttachFault.TheVariants.{NoMemory}
use Rattle.pcef_journal.proofs.LaneEnds.{attached_len, lanes_count}
use Rattle.pcef_session.specs.SessionModel.{SessionModel}
use Rattle.pcef_session.proofs.Leaving.{attach_few, attach_lacks, attach_next, attach_refused, ok_of}
use Rattle.pcef_session.proofs.InvariantKept.{sound_attached}
use Rattle.pcef_session.proofs.state.SessionState.attach.Goals as goal

pub returns-in-Some-clause-answer : goal.returns-in-Some-clause-answer
returns-in-Some-clause-answer c = attach_refused c.args.self.now.journal c.in-Some.fault (sym c.in-Some.ensures)

pub returns-then-is_err-clause-answer : goal.returns-then-is_err-clause-answer
returns-then-is_err-clause-answer c =
    let s = c.self.inside in
    let accepted : first_of (attach_faults s.counted.journal) ≡ None =
    subst (λ (v : SessionModel). first_of (attach_faults v.journal) ≡ None) (sym c.self.view_is) (sym c.in_default.ensures) in
    subst (λ (v : SessionModel). AttachStep v.journal (Err NoMemory) c.reserve.new.self.journal) c.self.view_is
    (subst (λ (j : Journal). AttachStep s.counted.journal (Err NoMemory) j) (sym c.reserve.ensures.journal) (attach_lacks s.counted.journal accepted))

pub overflow_cast-worker : goal.overflow_cast-worker
overflow_cast-worker c =
    let s = c.self.inside in
    let accepted : first_of (attach_faults s.counted.journal) ≡ None =
    subst (λ (v : SessionModel). first_of (attach_faults v.journal) ≡ None) (sym c.self.view_is) (sym c.in_default.ensures) in
    omega (arith, attach_few s.counted.journal accepted, c.len-worker.ensures, lanes_count s.counted.journal s.lanes c.self.invariant.lanes)

pub add_lane-requires : goal.add_lane-requires
add_lane-requires c =
    let s = c.self.inside in
    let accepted : first_of (attach_faults s.counted.journal) ≡ None =
    subst (λ (v : SessionModel). first_of (attach_faults v.journal) ≡ None) (sym c.self.view_is) (sym c.in_default.ensures) in
    omega (arith, attach_few s.counted.journal accepted, lanes_count s.counted.journal s.lanes c.self.invariant.lanes)

pub invariant_of-self-2 : goal.invariant_of-self-2
invariant_of-self-2 c =
    let s = c.self.inside in
    let count = lanes_count s.counted.journal s.lanes c.self.invariant.lanes in
    let accepted : first_of (attach_faults s.counted.journal) ≡ None =
    subst (λ (v : SessionModel). first_of (attach_faults v.journal) ≡ None) (sym c.self.view_is) (sym c.in_default.ensures) in
    let many = attached_len s.counted.journal s.lanes c.self.invariant.lanes in
    sound_attached s _ c.len-worker.result c.self.invariant (c.len-worker.ensures ∙ count) accepted refl refl
    (c.enter.ensures.journal ∙ ap (λ (j : Journal). entry.Attach c.len-worker.result ∷ j) c.reserve.ensures.journal)
    (c.enter.ensures.states ∙ c.reserve.ensures.states) refl refl refl refl c.add_lane.ensures refl refl
    (omega (arith, many, c.attached_count.ensures.number, ok_of c.reserve.result c.reserve.ensures.room c.if-is_err.ensures.value, c.enter.ensures.room))

pub returns-clause-answer : goal.returns-clause-answer
returns-clause-answer c =
    let s = c.self.inside in
    let count = lanes_count s.counted.journal s.lanes c.self.invariant.lanes in
    let accepted : first_of (attach_faults s.counted.journal) ≡ None =
    subst (λ (v : SessionModel). first_of (attach_faults v.journal) ≡ None) (sym c.self.view_is) (sym c.in_default.ensures) in
    subst (λ (v : SessionModel). AttachStep v.journal (Ok c.len-worker.result) c.enter.new.self.journal) c.self.view_is
    (attach_next s.counted.journal c.enter.new.self.journal c.len-worker.result (c.len-worker.ensures ∙ count) accepted
    (c.enter.ensures.journal ∙ ap (λ j. entry.Attach c.len-worker.result ∷ j) c.reserve.ensures.journal))

pub returns-clause-lane : goal.returns-clause-lane
returns-clause-lane c =
    let s = c.self.inside in
    let empty = new_lane (setting_of s.profile s.listing) s.counted.journal c.self.invariant.agrees.lawful in
    let number = c.len-worker.ensures ∙ lanes_count s.counted.journal s.lanes c.self.invariant.lanes in
    subst (λ (v : SessionModel). lane v.journal c.len-worker.result ≡ []) c.self.view_is (subst (λ n. lane s.counted.journal n ≡ []) (sym number) empty)
