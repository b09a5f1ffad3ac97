-- What reporters were asked for, and what they have taken (an own choice, as all of this crate).
use Rattle.std.specs.Prelude.{ℕ, ◌+◌, ◌≡◌, IsTrue, List, [], ◌∷◌, ◌++◌, length, Option, Some, None, is_some, slice_get, take, if◌then◌else◌}
use Rattle.std.specs.Option.{option_map}
use Rattle.std.specs.declared.dyn_box.DynBox.{DynBox}
use Rattle.std.specs.declared.alloc.Global.{Global}
use Rattle.pcef_model.specs.declared.report.Report.{Report}
use Rattle.pcef_trigger.specs.declared.kind.ReportKind.{ReportKind}
use Rattle.pcef_trigger.specs.declared.kind.ReportKind.TheVariants.{Usage, Access, Inactive}
use Rattle.pcef_trigger.specs.declared.reporter.Answer.{Answer}
use Rattle.pcef_trigger.specs.declared.reporter.Answer.TheVariants.{Taken, Refused}
use Rattle.pcef_trigger.specs.declared.outlet.Delivered.{Delivered}
use Rattle.pcef_trigger.specs.declared.outlet.Outlet.{Outlet}
use Rattle.pcef_trigger.specs.Kinds.{report_kind, of_kind, same_kind}

-- ---- one reporter
-- a report that is taken is the last of its list, and one that is refused leaves it
abbrev pub AnswersReport : List Report → Report → Answer → List Report → Type 0
AnswersReport old report Taken new = new ≡ old ++ report ∷ []
AnswersReport old report Refused new = new ≡ old

-- ---- at most one reporter for each kind
-- a list of the reporter of each kind, if there is one: what it has taken, or what it was asked for
pub record ReportLists : Type 0 where
  pub usage : Option (List Report)
  pub access : Option (List Report)
  pub inactive : Option (List Report)

abbrev pub list_of : ReportKind → ReportLists → Option (List Report)
list_of Usage report_lists = report_lists.usage
list_of Access report_lists = report_lists.access
list_of Inactive report_lists = report_lists.inactive

abbrev pub report_lists : {B : Type 0} → (B → List Report) → Option B → Option B → Option B → ReportLists
report_lists list usage access inactive = record {
  usage = option_map list usage;
  access = option_map list access;
  inactive = option_map list inactive;
}

-- those of an outlet, where `list` is what each reporter has taken, or what it was asked for
abbrev pub lists_of : {d : Type 0} {h : d → Type 0} → (DynBox d Global h → List Report) → Outlet d h → ReportLists
lists_of list outlet = report_lists list outlet.usage outlet.access outlet.inactive

-- those of reporters with their kinds: of each kind the first
abbrev pub list_in : {B : Type 0} → ReportKind → (B → List Report) → List (ReportKind × B) → Option (List Report)
list_in kind list [] = None
list_in kind list (first ∷ others) = if same_kind kind first.0 then Some (list first.1) else list_in kind list others

abbrev pub lists_in : {B : Type 0} → (B → List Report) → List (ReportKind × B) → ReportLists
lists_in list reporters = record {
  usage = list_in Usage list reporters;
  access = list_in Access list reporters;
  inactive = list_in Inactive list reporters;
}

-- an outlet has the reporters of a list
abbrev pub Keeps : {d : Type 0} {h : d → Type 0} → (DynBox d Global h → List Report) → Outlet d h → List (ReportKind × DynBox d Global h) → Type 0
Keeps list outlet reporters = lists_of list outlet ≡ lists_in list reporters

-- ---- deliveries
abbrev pub with_more : List Report → Option (List Report) → Option (List Report)
with_more more old = option_map (λ list. list ++ more) old

-- each list has the reports of its kind among these too, in their order
abbrev pub lists_after : ReportLists → List Report → ReportLists
lists_after old reports = record {
  usage = with_more (of_kind Usage reports) old.usage;
  access = with_more (of_kind Access reports) old.access;
  inactive = with_more (of_kind Inactive reports) old.inactive;
}

abbrev pub Sends : {d : Type 0} {h : d → Type 0} → (DynBox d Global h → List Report) → Outlet d h → Outlet d h → List Report → Type 0
Sends list old new reports = lists_of list new ≡ lists_after (lists_of list old) reports

-- those that reporters were asked for: all that were sent and, where one was refused, that one, once
abbrev pub asked_for : List Report → ℕ → Option ℕ → List Report
asked_for reports sent None = take sent reports
asked_for reports sent (Some number) = take (sent + 1) reports

-- there is a reporter of the report's kind
abbrev pub HasReporter : ReportLists → Report → Type 0
HasReporter report_lists report = IsTrue (is_some (list_of (report_kind report) report_lists))

-- none is named where all were sent, and else the first after those that were: its reporter refused it
abbrev pub IsRefusal : ReportLists → List Report → ℕ → Option ℕ → Type 0
IsRefusal report_lists reports sent None = sent ≡ length reports
IsRefusal report_lists reports sent (Some number) =
    (report : Report) × (slice_get reports sent ≡ Some report) × (number ≡ report.number) × HasReporter report_lists report

abbrev pub RefusesReports : {d : Type 0} {h : d → Type 0} → (DynBox d Global h → List Report) → Outlet d h → List Report → Delivered → Type 0
RefusesReports taken new reports delivered = IsRefusal (lists_of taken new) reports delivered.sent delivered.refused
