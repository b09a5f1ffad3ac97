use Rattle.std.proofs.Common.{arith, ◌≡◌, ◌<◌, ◌∙◌, ap, sym, subst, get_or, length, map}
use Rattle.std.proofs.lemmas.List.{length-map}
use Rattle.pcef_usage.specs.Counted.{Counted}
use Rattle.pcef_usage.specs.Keys.{state_at}
use Rattle.pcef_usage.specs.PendingReports.{threshold}
use Rattle.pcef_usage.proofs.Loops.{slot_within, knows_slot, threshold_at, threshold_here, told_step, states_step, keys_step, told_end, states_end}
use Rattle.pcef_usage.proofs.counted.CountedJournal.append_reached.Goals as goal

pub key-requires : goal.key-requires
key-requires c =
    subst (λ (v : Counted). (get_or c.args.reached.now c.loop-slot.slot-index (record { 0 = 0 })).0 < length v.states) (sym c.self.view_is)
    (slot_within _ _ c.args.reached.now c.loop-slot.slot-index _ c.requires.known c.loop-slot-test.true c.loop-slot.invariant.keys)

pub append_report-requires-clause-known : goal.append_report-requires-clause-known
append_report-requires-clause-known c =
    knows_slot _ c.loop-slot.self.states _ (slot_within _ _ c.args.reached.now c.loop-slot.slot-index _ c.requires.known c.loop-slot-test.true c.loop-slot.invariant.keys)
    (c.copy-key.ensures ∙ c.key.ensures ∙ ap (λ (v : Counted). (state_at (get_or c.args.reached.now c.loop-slot.slot-index (record { 0 = 0 })).0 v.states).key) c.self.view_is)

pub append_report-requires-clause-room : goal.append_report-requires-clause-room
append_report-requires-clause-room c = omega (arith, c.loop-slot.invariant.left)

pub loop-slot-preserved : goal.loop-slot-preserved
loop-slot-preserved c =
    let within : c.loop-slot.slot-index < length (map (threshold_at c.args.self.now.states) c.args.reached.now) = omega (arith, length-map c.args.reached.now (threshold_at c.args.self.now.states), c.loop-slot-test.true) in
    let is : threshold c.copy-key.result ≡ get_or (map (threshold_at c.args.self.now.states) c.args.reached.now) c.loop-slot.slot-index (threshold c.copy-key.result) =
    threshold_here c.loop-slot.self.states c.args.self.now.states c.args.reached.now c.loop-slot.slot-index (record { 0 = 0 }) c.copy-key.result c.loop-slot-test.true c.loop-slot.invariant.keys
    (c.copy-key.ensures ∙ c.key.ensures ∙ ap (λ (v : Counted). (state_at (get_or c.args.reached.now c.loop-slot.slot-index (record { 0 = 0 })).0 v.states).key) c.self.view_is) in record {
      journal = told_step _ c.loop-slot.slot-index _ _ _ _ _ _ within is c.loop-slot.invariant.journal c.append_report.ensures.journal c.append_report.ensures.states;
      states = states_step _ c.loop-slot.slot-index _ _ _ _ within is c.loop-slot.invariant.states c.append_report.ensures.states;
      forgotten = c.append_report.ensures.forgotten ∙ c.loop-slot.invariant.forgotten;
      keys = keys_step (threshold c.copy-key.result) _ _ _ c.loop-slot.invariant.keys c.append_report.ensures.states;
      left = omega (arith, c.loop-slot.invariant.left, c.append_report.ensures.room);
      room = omega (arith, c.loop-slot.invariant.room, c.append_report.ensures.room);
    }

pub returns-clause-journal : goal.returns-clause-journal
returns-clause-journal c =
    told_end (map (threshold_at c.args.self.now.states) c.args.reached.now) c.loop-slot.slot-index _ _ _ (omega (arith, length-map c.args.reached.now (threshold_at c.args.self.now.states), c.loop-slot-test.false)) c.loop-slot.invariant.journal

pub returns-clause-states : goal.returns-clause-states
returns-clause-states c =
    states_end (map (threshold_at c.args.self.now.states) c.args.reached.now) c.loop-slot.slot-index _ _ (omega (arith, length-map c.args.reached.now (threshold_at c.args.self.now.states), c.loop-slot-test.false)) c.loop-slot.invariant.states
