use Rattle.std.proofs.Common.{◌≡◌, ◌≤◌, ◌+◌, ◌++◌, length, drop, map, vec_capacity}
use Rattle.std.specs.Prelude.{sum_by}
use Rattle.pcef_diameter.specs.Spellings.{avps_octets}
use Rattle.pcef_gx.specs.Writing.{report_avp, report_room}
use Rattle.pcef_gx_messages.proofs.answering.put_reports.Given as goal

-- the reports so far, and those of the rest, are those of all; there is room for the rest
abbrev pub invariant-loop-report : goal.invariant-loop-report
invariant-loop-report l =
    (l.out.items ++ avps_octets (map report_avp (drop l.report-index l.reports)) ≡ l.fn.out.items ++ avps_octets (map report_avp l.reports))
    × (length l.out.items + sum_by report_room (drop l.report-index l.reports) ≤ length l.fn.out.items + sum_by report_room l.reports)
    × (sum_by report_room (drop l.report-index l.reports) ≤ sum_by report_room l.reports)
    × (vec_capacity l.fn.out ≤ vec_capacity l.out) × (vec_capacity l.fn.parts ≤ vec_capacity l.parts)
