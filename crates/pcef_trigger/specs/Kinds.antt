-- The kinds of reports: of usage (TS 29.212, clause 4.5.17), of access events (clause 5.3.7, Event-Trigger), and of rules that
-- became inactive (clause 5.3.18, Charging-Rule-Report).
use Rattle.std.specs.Prelude.{Bool, true, false, ◌||◌, List, [], ◌∷◌, filter}
use Rattle.std.specs.List.{list_any}
use Rattle.pcef_model.specs.declared.report.Body.{Body}
use Rattle.pcef_model.specs.declared.report.Body.TheVariants as body
use Rattle.pcef_model.specs.declared.report.Report.{Report}
use Rattle.pcef_trigger.specs.declared.kind.ReportKind.{ReportKind}
use Rattle.pcef_trigger.specs.declared.kind.ReportKind.TheVariants.{Usage, Access, Inactive}

abbrev pub body_kind : Body → ReportKind
body_kind (body.Usage key octets cause) = Usage
body_kind (body.Access kind value) = Access
body_kind (body.Inactive rule cause) = Inactive

abbrev pub report_kind : Report → ReportKind
report_kind report = body_kind report.body

abbrev pub same_kind : ReportKind → ReportKind → Bool
same_kind Usage Usage = true
same_kind Usage Access = false
same_kind Usage Inactive = false
same_kind Access Usage = false
same_kind Access Access = true
same_kind Access Inactive = false
same_kind Inactive Usage = false
same_kind Inactive Access = false
same_kind Inactive Inactive = true

-- the reports of a kind, in their order
abbrev pub of_kind : ReportKind → List Report → List Report
of_kind kind reports = filter (λ report. same_kind kind (report_kind report)) reports

-- ---- reporters, each with its kind
abbrev pub has_kind : {B : Type 0} → ReportKind → List (ReportKind × B) → Bool
has_kind kind reporters = list_any (λ reporter. same_kind kind reporter.0) reporters

-- two of these have one kind
abbrev pub repeats : {B : Type 0} → List (ReportKind × B) → Bool
repeats [] = false
repeats (first ∷ others) = has_kind first.0 others || repeats others
