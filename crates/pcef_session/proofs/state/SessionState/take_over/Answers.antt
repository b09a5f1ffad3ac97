use Rattle.std.proofs.Common.{ap}
use Rattle.pcef_model.proofs.Lanes.{lane_few}
use Rattle.pcef_journal.specs.declared.lanes.LaneEnd.{LaneEnd}
use Rattle.pcef_journal.proofs.LaneEnds.{attached_came, attached_len, end_is}
use Rattle.pcef_session.proofs.Leaving.{attached_accepted}
use Rattle.std.proofs.Common.{◌≡◌, ◌+◌, ◌≤◌, sym, subst, refl, arith, length, map, None}
use Rattle.pcef_model.specs.Entries.{rows}
use Rattle.pcef_model.specs.Reports.{after_flush}
use Rattle.pcef_session.specs.SessionModel.{SessionModel}
use Rattle.pcef_session.specs.private.TakenRows.{CanCountAll}
use Rattle.pcef_session.specs.Following.{HasItsSlots, row_of}
use Rattle.pcef_model.specs.Lawful.{BatchFollows}
use Rattle.pcef_model.specs.Refusals.{first_of, flush_refusals}
use Rattle.pcef_session.specs.private.Soundness.{parts_of}
use Rattle.pcef_model.specs.ProfileModel.{setting_of}
use Rattle.pcef_session.proofs.FlushAgrees.{can_count_all, flushed_journal, sound_flushed, states_agree, within_rows}
use Rattle.pcef_session.proofs.state.SessionState.take_over.Goals as goal

pub take_all-requires-clause-fits : goal.take_all-requires-clause-fits
take_all-requires-clause-fits c =
    let s = c.self.inside in
    let p = setting_of s.profile s.listing in
    let accepted = subst (λ (v : SessionModel). first_of (flush_refusals v.setting v.journal c.args.worker (length c.args.items.now)) ≡ None) (sym c.self.view_is) c.requires.accepted in
    let its = subst (λ (v : SessionModel). HasItsSlots v.setting v.journal c.args.items.now) (sym c.self.view_is) c.requires.slots in
    let within : length (rows s.counted.journal) + length c.args.items.now ≤ s.profile.rows = within_rows p s.counted.journal c.args.worker (length c.args.items.now) accepted in
    subst (CanCountAll c.args.items.now) (sym c.reserve.ensures.states)
    (can_count_all p s.counted.journal c.args.items.now s.counted.states (states_agree p s.counted.journal (parts_of s) c.self.invariant.agrees) its c.requires.octets c.self.invariant.limited.octets
    (omega (arith, within, c.self.invariant.limited.most_rows)))

pub lengthen-requires-clause-came : goal.lengthen-requires-clause-came
lengthen-requires-clause-came c =
    let s = c.self.inside in
    let accepted = subst (λ (v : SessionModel). first_of (flush_refusals v.setting v.journal c.args.worker (length c.args.items.now)) ≡ None) (sym c.self.view_is) c.requires.accepted in
    attached_came s.counted.journal s.lanes c.args.worker c.self.invariant.lanes (attached_accepted (setting_of s.profile s.listing) s.counted.journal c.args.worker (length c.args.items.now) (sym accepted))

pub lengthen-requires-clause-fits : goal.lengthen-requires-clause-fits
lengthen-requires-clause-fits c =
    let s = c.self.inside in
    let p = setting_of s.profile s.listing in
    let accepted = subst (λ (v : SessionModel). first_of (flush_refusals v.setting v.journal c.args.worker (length c.args.items.now)) ≡ None) (sym c.self.view_is) c.requires.accepted in
    let came = attached_came s.counted.journal s.lanes c.args.worker c.self.invariant.lanes (attached_accepted p s.counted.journal c.args.worker (length c.args.items.now) (sym accepted)) in
    let within : length (rows s.counted.journal) + length c.args.items.now ≤ s.profile.rows = within_rows p s.counted.journal c.args.worker (length c.args.items.now) accepted in
    let here = ap (λ (e : LaneEnd). e.rows) (end_is s.counted.journal s.lanes c.args.worker c.self.invariant.lanes came) in
    omega (arith, within, here, lane_few c.args.worker (rows s.counted.journal), c.self.invariant.limited.most_rows)

pub invariant_of-self-2 : goal.invariant_of-self-2
invariant_of-self-2 c =
    let s = c.self.inside in
    let accepted = subst (λ (v : SessionModel). first_of (flush_refusals v.setting v.journal c.args.worker (length c.args.items.now)) ≡ None) (sym c.self.view_is) c.requires.accepted in
    let its = subst (λ (v : SessionModel). HasItsSlots v.setting v.journal c.args.items.now) (sym c.self.view_is) c.requires.slots in
    let follow = subst (λ (v : SessionModel). BatchFollows v.setting v.journal c.args.worker (map row_of c.args.items.now)) (sym c.self.view_is) c.requires.follow in
    sound_flushed s _ c.args.worker c.args.items.now c.reserve.new.self c.self.invariant accepted follow its c.requires.octets c.reserve.ensures.states c.reserve.ensures.journal c.take_all.ensures.taken
    refl refl refl refl refl refl c.lengthen.ensures refl refl
    (omega (arith, c.take_all.ensures.room, c.in_ok-reserve.ensures.room, c.attached_count.ensures.number, attached_len s.counted.journal s.lanes c.self.invariant.lanes))

pub returns-clause-taken : goal.returns-clause-taken
returns-clause-taken c =
    let s = c.self.inside in
    let p = setting_of s.profile s.listing in
    let its = subst (λ (v : SessionModel). HasItsSlots v.setting v.journal c.args.items.now) (sym c.self.view_is) c.requires.slots in
    subst (λ (v : SessionModel). c.take_all.new.counted.journal ≡ after_flush v.setting v.journal (map row_of c.args.items.now)) c.self.view_is
    (flushed_journal p s.counted.journal c.args.items.now (parts_of s) c.reserve.new.self c.take_all.new.counted c.self.invariant.agrees c.reserve.ensures.states c.reserve.ensures.journal its c.take_all.ensures.taken)
