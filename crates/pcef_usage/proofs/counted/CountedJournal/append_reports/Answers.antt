use Rattle.std.proofs.Common.{◌∙◌, arith}
use Rattle.pcef_usage.proofs.Loops.{knows_here, told_step, states_step, keys_step, told_end, states_end}
use Rattle.pcef_usage.proofs.counted.CountedJournal.append_reports.Goals as goal

pub append_report-requires-clause-known : goal.append_report-requires-clause-known
append_report-requires-clause-known c =
    knows_here _ _ c.args.all_pending.now c.loop-pending.pending-index _ c.loop-pending-test.true c.pending-item.is c.loop-pending.invariant.keys c.requires.known

pub append_report-requires-clause-room : goal.append_report-requires-clause-room
append_report-requires-clause-room c = omega (arith, c.loop-pending.invariant.left)

pub loop-pending-preserved : goal.loop-pending-preserved
loop-pending-preserved c = record {
  journal = told_step c.args.all_pending.now c.loop-pending.pending-index _ _ _ _ _ _ c.loop-pending-test.true c.pending-item.is c.loop-pending.invariant.journal c.append_report.ensures.journal c.append_report.ensures.states;
  states = states_step c.args.all_pending.now c.loop-pending.pending-index _ _ _ _ c.loop-pending-test.true c.pending-item.is c.loop-pending.invariant.states c.append_report.ensures.states;
  forgotten = c.append_report.ensures.forgotten ∙ c.loop-pending.invariant.forgotten;
  keys = keys_step _ _ _ _ c.loop-pending.invariant.keys c.append_report.ensures.states;
  left = omega (arith, c.loop-pending.invariant.left, c.append_report.ensures.room);
  room = omega (arith, c.loop-pending.invariant.room, c.append_report.ensures.room);
}

pub returns-clause-journal : goal.returns-clause-journal
returns-clause-journal c = told_end c.args.all_pending.now c.loop-pending.pending-index _ _ _ c.loop-pending-test.false c.loop-pending.invariant.journal

pub returns-clause-states : goal.returns-clause-states
returns-clause-states c = states_end c.args.all_pending.now c.loop-pending.pending-index _ _ c.loop-pending-test.false c.loop-pending.invariant.states
