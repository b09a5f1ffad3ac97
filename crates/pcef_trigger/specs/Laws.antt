-- Laws of deliveries, for whoever reads the definitions.
use Rattle.std.specs.Prelude.{ℕ, ◌≡◌, ◌+◌, List, take, drop}
use Rattle.pcef_model.specs.declared.report.Report.{Report}
use Rattle.pcef_trigger.specs.Deliveries.{ReportLists, lists_after}

-- what is sent of a list, and then of what was left of it, is sent of the list once: no report is taken twice, and none is passed over
abbrev pub DeliveriesJoin : Type 0
DeliveriesJoin = (old : ReportLists) (reports : List Report) (first more : ℕ) →
    lists_after (lists_after old (take first reports)) (take more (drop first reports)) ≡ lists_after old (take (first + more) reports)
