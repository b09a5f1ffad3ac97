use Rattle.std.proofs.Common.{◌≡◌, ◌≤◌, ◌+◌, drop, length, map}
use Rattle.pcef_usage.specs.Keys.{keys_of}
use Rattle.pcef_usage.specs.PendingReports.{appended, after_reports}
use Rattle.pcef_usage.proofs.Loops.{threshold_at}
use Rattle.pcef_usage.proofs.counted.CountedJournal.append_reached.Given as goal

abbrev pub invariant-loop-slot : goal.invariant-loop-slot
invariant-loop-slot l = record {
  journal : appended (drop l.slot-index (map (threshold_at l.initial.self.states) l.reached)) l.self.states l.self.journal ≡
      appended (map (threshold_at l.initial.self.states) l.reached) l.initial.self.states l.initial.self.journal;
  states : after_reports (drop l.slot-index (map (threshold_at l.initial.self.states) l.reached)) l.self.states ≡
      after_reports (map (threshold_at l.initial.self.states) l.reached) l.initial.self.states;
  forgotten : l.self.forgotten ≡ l.initial.self.forgotten;
  keys : keys_of l.self.states ≡ keys_of l.initial.self.states;
  left : length l.reached ≤ l.self.room + l.slot-index;
  room : l.initial.self.room ≤ l.self.room + l.slot-index;
}
