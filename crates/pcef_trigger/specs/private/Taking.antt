-- What one reporter, and an outlet, do with one report.
use Rattle.std.specs.Prelude.{◌≡◌, List, [], ◌∷◌, ◌++◌, Option, Some, None}
use Rattle.std.specs.Option.{option_map}
use Rattle.std.specs.declared.dyn_box.DynBox.{DynBox}
use Rattle.std.specs.declared.alloc.Global.{Global}
use Rattle.pcef_model.specs.declared.report.Report.{Report}
use Rattle.pcef_trigger.specs.declared.reporter.Answer.{Answer}
use Rattle.pcef_trigger.specs.declared.reporter.Answer.TheVariants.{Taken, Refused}
use Rattle.pcef_trigger.specs.declared.outlet.Outlet.{Outlet}
use Rattle.pcef_trigger.specs.Deliveries.{HasReporter, ReportLists, lists_after, lists_of, with_more}

-- a reporter answers, if there is one; where there is none, the report counts as taken
abbrev pub AnswersIn : Option (List Report) → Report → Answer → Option (List Report) → Type 0
AnswersIn None report Taken new = new ≡ None
AnswersIn None report Refused new = ⊥
AnswersIn (Some old) report Taken new = new ≡ Some (old ++ report ∷ [])
AnswersIn (Some old) report Refused new = new ≡ Some old

abbrev pub AnswersAt : {B : Type 0} → (B → List Report) → Option B → Report → Answer → Option B → Type 0
AnswersAt taken old report answer new = AnswersIn (option_map taken old) report answer (option_map taken new)

-- a reporter was asked for a report, if there is one
abbrev pub AsksAt : {B : Type 0} → (B → List Report) → Option B → Report → Option B → Type 0
AsksAt asked old report new = option_map asked new ≡ with_more (report ∷ []) (option_map asked old)

-- one report is sent, or its reporter refuses it
abbrev pub TakesIn : ReportLists → Report → Answer → ReportLists → Type 0
TakesIn old report Taken new = new ≡ lists_after old (report ∷ [])
TakesIn old report Refused new = (new ≡ old) × HasReporter new report

abbrev pub TakesOne : {d : Type 0} {h : d → Type 0} → (DynBox d Global h → List Report) → Outlet d h → Report → Answer → Outlet d h → Type 0
TakesOne taken old report answer new = TakesIn (lists_of taken old) report answer (lists_of taken new)
