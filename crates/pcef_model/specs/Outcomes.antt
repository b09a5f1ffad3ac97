-- What a session answers to an event, and the journal after it (own choice).
use Rattle.std.specs.Prelude.{ℕ, ◌≡◌, ◌⊎◌, Bool, true, false, not, List, Option, Some, None, Result, Ok, Err, find, length, map, if◌then◌else◌}
use Rattle.pcef_rule.specs.declared.quantity.BearerId.{BearerId}
use Rattle.pcef_rule.specs.declared.quantity.Sums.{Sums}
use Rattle.pcef_model.specs.declared.command.Command.{Command}
use Rattle.pcef_model.specs.declared.command.Command.TheVariants.{Install, Activate}
use Rattle.pcef_model.specs.declared.row.Row.{Row}
use Rattle.pcef_model.specs.Setting.{Setting}
use Rattle.pcef_model.specs.ActiveRules.{Active, is_named}
use Rattle.pcef_model.specs.Generations.{Generation}
use Rattle.pcef_model.specs.Entries.{Journal}
use Rattle.pcef_model.specs.Journals.{attach_count, gen, lane_len, now, report_count}
use Rattle.pcef_model.specs.Reports.{after_attach, after_command, after_finish, after_flush, after_leave}
use Rattle.pcef_model.specs.declared.answer.Accepted.{Accepted}
use Rattle.pcef_model.specs.declared.answer.AttachFault.{AttachFault}
use Rattle.pcef_model.specs.declared.answer.AttachFault.TheVariants as attach
use Rattle.pcef_model.specs.declared.answer.FlushRefusal.{FlushRefusal}
use Rattle.pcef_model.specs.declared.answer.FlushRefusal.TheVariants as flush
use Rattle.pcef_model.specs.declared.answer.Judged.{Judged}
use Rattle.pcef_model.specs.declared.answer.OpenFault.{OpenFault}
use Rattle.pcef_model.specs.declared.answer.OpenFault.TheVariants as opening
use Rattle.pcef_model.specs.declared.answer.Verdicts.{Verdicts}
use Rattle.pcef_model.specs.declared.answer.Refusal.{Refusal}
use Rattle.pcef_model.specs.declared.answer.Refusal.TheVariants as refusal
use Rattle.pcef_model.specs.Refusals.{attach_faults, first_of, flush_refusals, is_active, is_attached, open_faults, refusals, refusals_within}

-- an answer, and the journal after it
abbrev pub Outcome : Type 0 → Type 0 → Type 0
Outcome A R = Result A R × Journal

-- ---- commands
-- Activate of an active rule is accepted and changes nothing
abbrev pub changes : Setting → Journal → Command → Bool
changes p j (Activate name) = not (is_active p j name)
changes p j _ = true

abbrev pub bearer_of : Generation → Option Active → Option BearerId
bearer_of g None = None
bearer_of g (Some r) = Some (record { 0 = g.id_of r.properties.qos })

-- the bearer of the rule that a command makes active
abbrev pub bearer_named : Generation → Command → Option BearerId
bearer_named g (Install rule) = bearer_of g (find (is_named rule.properties.name) g.rules)
bearer_named g (Activate name) = bearer_of g (find (is_named name) g.rules)
bearer_named g _ = None

-- the answer to an accepted command, read off the journals before and after it
abbrev pub accepted : Setting → Command → Journal → Journal → Bool → Accepted
accepted p c before after unchanged = record {
  generation = gen after;
  bearer = bearer_named (now p after) c;
  first_report = report_count before;
  past_last_report = report_count after;
  unchanged = unchanged;
}

abbrev pub command_outcome_by : Setting → Journal → Command → Option Refusal → Outcome Accepted Refusal
command_outcome_by p j c (Some r) = (Err r, j)
command_outcome_by p j c None =
    if changes p j c then (Ok (accepted p c j (after_command p j c) false), after_command p j c) else (Ok (accepted p c j j true), j)

unfoldable pub command_outcome : Setting → Journal → Command → Outcome Accepted Refusal
command_outcome p j c = command_outcome_by p j c (first_of (refusals p j c))

-- the same in a room, where the session has one
unfoldable pub command_outcome_within : Setting → Journal → Command → Option Sums → Outcome Accepted Refusal
command_outcome_within p j c room = command_outcome_by p j c (first_of (refusals_within p j c room))

-- ---- workers
abbrev pub attach_outcome_by : Journal → Option AttachFault → Outcome ℕ AttachFault
attach_outcome_by j (Some f) = (Err f, j)
attach_outcome_by j None = (Ok (attach_count j), after_attach j)

-- a worker gets the next number
unfoldable pub attach_outcome : Journal → Outcome ℕ AttachFault
attach_outcome j = attach_outcome_by j (first_of (attach_faults j))

abbrev pub judged_of : Row → Judged
judged_of r = record { generation = r.generation; verdict = r.verdict }

-- the answer to rows that were taken over: their verdicts, and the reports from one number to another
pub record FlushAnswer : Type 0 where
  pub rows : List Judged
  pub first_report : ℕ
  pub past_last_report : ℕ

abbrev pub flush_answer_of : Verdicts → FlushAnswer
flush_answer_of v = record { rows = v.rows.items; first_report = v.first_report; past_last_report = v.past_last_report }

abbrev pub finish_answer_of : Verdicts × ℕ → FlushAnswer × ℕ
finish_answer_of v = (flush_answer_of v.0, v.1)

abbrev pub flush_answer : List Row → Journal → Journal → FlushAnswer
flush_answer rows before after = record { rows = map judged_of rows; first_report = report_count before; past_last_report = report_count after }

abbrev pub flush_outcome_by : Setting → Journal → List Row → Option FlushRefusal → Outcome FlushAnswer FlushRefusal
flush_outcome_by p j rows (Some r) = (Err r, j)
flush_outcome_by p j rows None = (Ok (flush_answer rows j (after_flush p j rows)), after_flush p j rows)

-- all rows are taken over or none
unfoldable pub flush_outcome : Setting → Journal → ℕ → List Row → Outcome FlushAnswer FlushRefusal
flush_outcome p j worker rows = flush_outcome_by p j rows (first_of (flush_refusals p j worker (length rows)))

abbrev pub finish_outcome_by : Setting → Journal → ℕ → List Row → Option FlushRefusal → Outcome (FlushAnswer × ℕ) FlushRefusal
finish_outcome_by p j worker rows (Some r) = (Err r, j)
finish_outcome_by p j worker rows None =
    (Ok (flush_answer rows j (after_flush p j rows), lane_len (after_flush p j rows) worker), after_finish p j worker rows)

-- the last flush, and the leaving with it, whose answer has the length of the lane
unfoldable pub finish_outcome : Setting → Journal → ℕ → List Row → Outcome (FlushAnswer × ℕ) FlushRefusal
finish_outcome p j worker rows = finish_outcome_by p j worker rows (first_of (flush_refusals p j worker (length rows)))

-- an attached worker leaves; its waiting rows get no verdict
abbrev pub abandon_outcome : Journal → ℕ → ℕ × Journal
abandon_outcome j worker = (lane_len j worker, if is_attached j worker then after_leave worker j else j)

-- ---- promises
-- the fault is the first one, or where there is none out of memory
abbrev pub IsFirstFault : {R : Type 0} → Option R → R → R → Type 0
IsFirstFault first want fault = (first ≡ Some fault) ⊎ ((first ≡ None) × (fault ≡ want))

-- a session opens where there is no fault
abbrev pub Opens : Setting → Option OpenFault → Type 0
Opens p None = first_of (open_faults p) ≡ None
Opens p (Some f) = IsFirstFault (first_of (open_faults p)) opening.NoMemory f

abbrev pub IsRefused : Setting → Journal → Command → Refusal → Type 0
IsRefused p j c r = IsFirstFault (first_of (refusals p j c)) refusal.NoMemory r

abbrev pub IsRefusedWithin : Setting → Journal → Command → Option Sums → Refusal → Type 0
IsRefusedWithin p j c room r = IsFirstFault (first_of (refusals_within p j c room)) refusal.NoMemory r

-- what was answered, and the journal after it, are as due
abbrev pub Gives : {A R : Type 0} → Outcome A R → Result A R → Journal → Type 0
Gives due result after = (result ≡ due.0) × (after ≡ due.1)

-- what is due, or where nothing refuses it out of memory, which changes nothing
abbrev pub GivesOrLacks : {A R : Type 0} → Option R → R → Outcome A R → Journal → Result A R → Journal → Type 0
GivesOrLacks first want due before result after =
    Gives due result after ⊎ ((first ≡ None) × Gives (Err want, before) result after)

abbrev pub CommandStep : Setting → Command → Journal → Result Accepted Refusal → Journal → Type 0
CommandStep p c before result after =
    GivesOrLacks (first_of (refusals p before c)) refusal.NoMemory (command_outcome p before c) before result after

-- the same in a room, where the session has one
abbrev pub CommandStepWithin : Setting → Option Sums → Command → Journal → Result Accepted Refusal → Journal → Type 0
CommandStepWithin p room c before result after =
    GivesOrLacks (first_of (refusals_within p before c room)) refusal.NoMemory (command_outcome_within p before c room) before result after

abbrev pub AttachStep : Journal → Result ℕ AttachFault → Journal → Type 0
AttachStep before result after =
    GivesOrLacks (first_of (attach_faults before)) attach.NoMemory (attach_outcome before) before result after

abbrev pub FlushStep : Setting → ℕ → List Row → Journal → Result FlushAnswer FlushRefusal → Journal → Type 0
FlushStep p worker rows before result after =
    GivesOrLacks (first_of (flush_refusals p before worker (length rows))) flush.NoMemory (flush_outcome p before worker rows) before result after

abbrev pub FinishStep : Setting → ℕ → List Row → Journal → Result (FlushAnswer × ℕ) FlushRefusal → Journal → Type 0
FinishStep p worker rows before result after =
    GivesOrLacks (first_of (flush_refusals p before worker (length rows))) flush.NoMemory (finish_outcome p before worker rows) before result after
