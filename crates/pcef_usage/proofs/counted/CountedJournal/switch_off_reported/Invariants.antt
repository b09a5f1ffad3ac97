use Rattle.pcef_usage.specs.Keys.{keys_of}
use Rattle.std.proofs.Common.{◌≡◌, drop}
use Rattle.pcef_usage.specs.PendingReports.{states_stopped}
use Rattle.pcef_usage.proofs.counted.CountedJournal.switch_off_reported.Given as goal

abbrev pub invariant-loop-pending : goal.invariant-loop-pending
invariant-loop-pending l = record {
  journal : l.self.journal ≡ l.initial.self.journal;
  states : states_stopped (drop l.pending-index l.all_pending) l.self.states ≡ states_stopped l.all_pending l.initial.self.states;
  forgotten : l.self.forgotten ≡ l.initial.self.forgotten;
  keys : keys_of l.self.states ≡ keys_of l.initial.self.states;
  room : l.self.room ≡ l.initial.self.room;
}
