use Rattle.std.proofs.Common.{◌∙◌}
use Rattle.pcef_usage.proofs.Loops.{knows_here, stop_step, stop_keys, stop_end}
use Rattle.pcef_usage.proofs.counted.CountedJournal.switch_off_reported.Goals as goal

pub stop_if-requires : goal.stop_if-requires
stop_if-requires c = record {
  known = knows_here _ _ c.args.all_pending.now c.loop-pending.pending-index _ c.loop-pending-test.true c.pending-item.is c.loop-pending.invariant.keys c.requires.known;
}

pub loop-pending-preserved : goal.loop-pending-preserved
loop-pending-preserved c = record {
  journal = c.stop_if.ensures.journal ∙ c.loop-pending.invariant.journal;
  states = stop_step c.args.all_pending.now c.loop-pending.pending-index _ _ _ _ c.loop-pending-test.true c.pending-item.is c.loop-pending.invariant.states c.stop_if.ensures.states;
  forgotten = c.stop_if.ensures.forgotten ∙ c.loop-pending.invariant.forgotten;
  keys = stop_keys _ _ _ _ c.loop-pending.invariant.keys c.stop_if.ensures.states;
  room = c.stop_if.ensures.room ∙ c.loop-pending.invariant.room;
}

pub returns-clause-states : goal.returns-clause-states
returns-clause-states c = stop_end c.args.all_pending.now c.loop-pending.pending-index _ _ c.loop-pending-test.false c.loop-pending.invariant.states
