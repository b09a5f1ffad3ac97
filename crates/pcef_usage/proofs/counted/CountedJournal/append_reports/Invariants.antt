use Rattle.pcef_usage.specs.Keys.{keys_of}
use Rattle.std.proofs.Common.{◌≡◌, ◌≤◌, ◌+◌, drop, length}
use Rattle.pcef_usage.specs.PendingReports.{appended, after_reports}
use Rattle.pcef_usage.proofs.counted.CountedJournal.append_reports.Given as goal

abbrev pub invariant-loop-pending : goal.invariant-loop-pending
invariant-loop-pending l = record {
  journal : appended (drop l.pending-index l.all_pending) l.self.states l.self.journal ≡ appended l.all_pending l.initial.self.states l.initial.self.journal;
  states : after_reports (drop l.pending-index l.all_pending) l.self.states ≡ after_reports l.all_pending l.initial.self.states;
  forgotten : l.self.forgotten ≡ l.initial.self.forgotten;
  keys : keys_of l.self.states ≡ keys_of l.initial.self.states;
  left : length l.all_pending ≤ l.self.room + l.pending-index;
  room : l.initial.self.room ≤ l.self.room + l.pending-index;
}
