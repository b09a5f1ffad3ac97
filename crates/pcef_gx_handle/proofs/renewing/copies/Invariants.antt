use Rattle.std.proofs.Common.{◌≡◌, ◌++◌, drop}
use Rattle.pcef_gx_handle.proofs.renewing.copies.Given as goal

-- the reports so far, and the rest, are all of them
abbrev pub invariant-loop-report : goal.invariant-loop-report
invariant-loop-report l = l.all.items ++ drop l.report-index l.reports ≡ l.reports
