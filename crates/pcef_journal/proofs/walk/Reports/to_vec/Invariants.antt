use Rattle.std.proofs.Common.{◌≡◌, take}
use Rattle.pcef_journal.proofs.walk.Reports.to_vec.Given as goal

abbrev pub invariant-loop-report : goal.invariant-loop-report
invariant-loop-report l = l.list.items ≡ take l.report-index l.report-items
