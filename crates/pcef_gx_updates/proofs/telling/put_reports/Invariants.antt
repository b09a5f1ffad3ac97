use Rattle.std.proofs.Common.{◌≡◌, ◌++◌, drop, map}
use Rattle.pcef_diameter.specs.Spellings.{avps_octets}
use Rattle.pcef_gx_updates.specs.Updates.{report_told}
use Rattle.pcef_gx_updates.proofs.telling.put_reports.Given as goal

-- the reports so far, and those of the rest, are those of all
abbrev pub invariant-loop-report : goal.invariant-loop-report
invariant-loop-report l =
    l.out.items ++ avps_octets (map report_told (drop l.report-index l.reports)) ≡ l.fn.out.items ++ avps_octets (map report_told l.reports)
