use Rattle.std.proofs.Common.{◌≡◌, drop}
use Rattle.pcef_gx_updates.specs.Updates.{any_of, is_gone}
use Rattle.pcef_gx_updates.proofs.triggers.any_gone.Given as goal

-- none was found so far
abbrev pub invariant-loop-report : goal.invariant-loop-report
invariant-loop-report l = any_of is_gone (drop l.report-index l.reports) ≡ any_of is_gone l.reports
