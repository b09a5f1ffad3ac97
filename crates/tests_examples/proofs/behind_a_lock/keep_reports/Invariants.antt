use Rattle.std.proofs.Common.{◌≡◌}
use Rattle.tests_examples.proofs.behind_a_lock.keep_reports.Given as goal

abbrev pub invariant-loop-report : goal.invariant-loop-report
invariant-loop-report l = l.journal.forgotten ≡ 0
