-- What contracts see of a reporter that stores reports.
use Rattle.std.specs.Prelude.{List}
use Rattle.pcef_model.specs.declared.report.Report.{Report}
use Rattle.pcef_trigger.specs.declared.kind.ReportKind.{ReportKind}

-- its kind, and the reports that it was asked for and those that it took, both the oldest first
pub record StoringModel : Type 0 where
  pub kind : ReportKind
  pub asked : List Report
  pub taken : List Report
