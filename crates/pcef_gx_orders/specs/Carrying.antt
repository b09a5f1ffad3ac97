-- What the orders of a message do to a session, one after the other (TS 29.212, clause 4.5.2).
use Rattle.std.specs.Prelude.{ℕ, ◌≡◌, ◌⊎◌, List, [], ◌∷◌, Option, Some, None, option_map, Result, Ok, Err, if◌then◌else◌}
use Rattle.pcef_gx.specs.Completing.{completed}
use Rattle.pcef_gx.specs.declared.definition.RuleChange.{RuleChange}
use Rattle.pcef_gx.specs.declared.failure.RuleFailure.{RuleFailure}
use Rattle.pcef_gx.specs.declared.failure.RuleFailure.TheVariants.{GatewayMalfunction}
use Rattle.pcef_gx.specs.declared.order.Order.{Order}
use Rattle.pcef_gx.specs.declared.order.Order.TheVariants as order
use Rattle.pcef_gx.specs.declared.writing.RuleReport.{RuleReport}
use Rattle.pcef_gx.specs.declared.writing.RuleStatus.{RuleStatus}
use Rattle.pcef_gx.specs.declared.writing.RuleStatus.TheVariants.{Active, Inactive}
use Rattle.pcef_model.specs.declared.answer.Accepted.{Accepted}
use Rattle.pcef_model.specs.declared.answer.Refusal.{Refusal}
use Rattle.pcef_model.specs.declared.command.Command.{Command}
use Rattle.pcef_model.specs.declared.command.Command.TheVariants as command
use Rattle.pcef_model.specs.Entries.{Journal}
use Rattle.pcef_model.specs.Outcomes.{CommandStep}
use Rattle.pcef_model.specs.Refusals.{is_active}
use Rattle.pcef_model.specs.Setting.{Setting}
use Rattle.pcef_rule.specs.Definition.{Definition}
use Rattle.pcef_session.specs.SessionModel.{SessionModel}
use Rattle.pcef_world.specs.Worlds.{World}
use Rattle.pcef_gx_orders.specs.Fates.{key_fate, rule_fate, setting_fate}
use Rattle.pcef_gx_orders.specs.Naming.{kind_given, name_given, rule_named}
use Rattle.pcef_gx_orders.specs.Standing.{active_definition, keys_on}
use Rattle.pcef_gx_orders.specs.declared.carrying.CarriedOut.{CarriedOut}
use Rattle.pcef_gx_orders.specs.declared.fate.Fate.{Fate}
use Rattle.pcef_gx_orders.specs.declared.fate.Fate.TheVariants.{Done, NoRule, Refused}

-- a command of a session is answered as due, or refused when out of memory
abbrev pub Answers : World → Command → Result Accepted Refusal → World → Type 0
Answers before c answer after = CommandStep before.session.setting c before.session.journal answer after.session.journal

-- a relation of the journals before and after, in the session of a world
abbrev pub Between : (Setting → Journal → Journal → Type 0) → World → World → Type 0
Between relation before after = relation before.session.setting before.session.journal after.session.journal

-- ---- one order
-- a command is done, and what became of the order follows from its answer
abbrev pub FatedBy : (Result Accepted Refusal → Fate) → Setting → Journal → Command → Fate → Journal → Type 0
FatedBy fate_of p before c fate after = (answer : Result Accepted Refusal) × CommandStep p c before answer after × (fate ≡ fate_of answer)

-- a rule can't be had whatever the session does
abbrev pub IsUnable : Journal → RuleFailure → Fate → Journal → Type 0
IsUnable before failure fate after = (fate ≡ NoRule failure) × (after ≡ before)

-- the rule that a definition makes of the active one of its name is installed
abbrev pub InstallsCompleted : Setting → Journal → Result Definition RuleFailure → Fate → Journal → Type 0
InstallsCompleted p before (Ok rule) fate after = FatedBy rule_fate p before (command.Install rule) fate after
InstallsCompleted p before (Err failure) fate after = IsUnable before failure fate after

-- what a definition makes of the active rule of its name
abbrev pub completed_now : Setting → Journal → RuleChange → Result Definition RuleFailure
completed_now p j change = completed p.ue change (active_definition p j change.name)

-- when out of memory the rule can't be had
abbrev pub Installs : Setting → Journal → RuleChange → Fate → Journal → Type 0
Installs p before change fate after =
    InstallsCompleted p before (completed_now p before change) fate after ⊎ IsUnable before GatewayMalfunction fate after

-- a report of each of these keys is asked for, up to the first that is refused
abbrev pub ReportsAll : Setting → Journal → List (List ℕ) → Fate → Journal → Type 0
ReportsAll p before [] fate after = (fate ≡ Done) × (after ≡ before)
ReportsAll p before (key ∷ keys) fate after =
    ((mid : Journal) × FatedBy key_fate p before (command.ReportNow key) Done mid × ReportsAll p mid keys fate after)
    ⊎ ((fate ≡ Refused) × FatedBy key_fate p before (command.ReportNow key) Refused after)

-- so is one of each key that is on; when out of memory that is refused
abbrev pub ReportsOn : Setting → Journal → Fate → Journal → Type 0
ReportsOn p before fate after = ReportsAll p before (keys_on p before) fate after ⊎ ((fate ≡ Refused) × (after ≡ before))

-- what an order does, and what became of it
abbrev pub Carries : Setting → Journal → Order → Fate → Journal → Type 0
Carries p before (order.Remove name) fate after = FatedBy rule_fate p before (command.Remove name) fate after
Carries p before (order.Activate name) fate after = FatedBy rule_fate p before (command.Activate name) fate after
Carries p before (order.Install change) fate after = Installs p before change fate after
Carries p before (order.Unable name of failure) fate after = IsUnable before failure fate after
Carries p before (order.Triggers set) fate after = FatedBy setting_fate p before (command.Triggers set) fate after
Carries p before (order.Monitor key grant level) fate after =
    FatedBy setting_fate p before (command.Monitor key grant level) fate after
Carries p before (order.Stop key) fate after = FatedBy key_fate p before (command.Stop key) fate after
Carries p before (order.ReportNow key) fate after = FatedBy key_fate p before (command.ReportNow key) fate after
Carries p before order.ReportAll fate after = ReportsOn p before fate after

-- ---- all orders of a message
-- whether a rule is active, once its order was refused: a change that is refused leaves the rule as it was
abbrev pub status_now : Setting → Journal → Option (List ℕ) → RuleStatus
status_now p j None = Inactive
status_now p j (Some name) = if is_active p j name then Active else Inactive

-- the report of a rule that couldn't be had: its name as it stood, whether it is active, and why (clause 5.3.18)
pub record IsReport (p : Setting) (j : Journal) (asked : Order) (failure : RuleFailure) (r : RuleReport) : Type 0 where
  pub name_is : r.name.now ≡ name_given asked
  pub kind_is : r.of ≡ kind_given asked
  pub status_is : r.status ≡ status_now p j (rule_named asked)
  pub failure_is : r.failure ≡ failure

-- what is told of an order, with what is told of those behind it: a rule that couldn't be had has one report, and a
-- refused order that names no rule leaves the others undone
abbrev pub Told : Setting → Journal → Order → Fate → (List RuleReport → Option Order → Journal → Type 0) → List RuleReport → Option Order → Journal → Type 0
Told p j asked Done others reports refused after = others reports refused after
Told p j asked (NoRule failure) others reports refused after =
    (report : RuleReport) × (more : List RuleReport) × (reports ≡ report ∷ more) × IsReport p j asked failure report × others more refused after
Told p j asked Refused others reports refused after = (reports ≡ []) × (refused ≡ Some asked) × (after ≡ j)

-- orders are done one after the other: with the reports of the rules that couldn't be had, and the order that was
-- refused and names no rule, where there is one
abbrev pub CarriesOut : Setting → Journal → List Order → List RuleReport → Option Order → Journal → Type 0
CarriesOut p before [] reports refused after = (reports ≡ []) × (refused ≡ None) × (after ≡ before)
CarriesOut p before (asked ∷ orders) reports refused after =
    (fate : Fate) × (mid : Journal) × Carries p before asked fate mid × Told p mid asked fate (CarriesOut p mid orders) reports refused after

-- the same of the session of a world
abbrev pub DoesOrders : World → List Order → CarriedOut → World → Type 0
DoesOrders before orders c after =
    Between (λ p j k. CarriesOut p j orders c.reports.items (option_map (λ o. o.now) c.refused) k) before after
