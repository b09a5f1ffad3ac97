-- What a session answers to an event, and the session after it, each in one fact.
use Rattle.std.specs.Prelude.{ℕ, ◌≡◌, ◌≤◌, ◌<◌, ◌-◌, List, [], Option, None, Result, Ok, MatchOption, map}
use Rattle.std.specs.Result.{result_map_both}
use Rattle.pcef_bearer.specs.Bindings.{Binding}
use Rattle.pcef_bearer.specs.Standing.{binding_of}
use Rattle.pcef_journal.specs.declared.lanes.LaneEnd.{LaneEnd}
use Rattle.pcef_journal.specs.Lanes.{lane_end}
use Rattle.pcef_rule.specs.declared.quantity.Sums.{Sums}
use Rattle.pcef_model.specs.declared.answer.Accepted.{Accepted}
use Rattle.pcef_model.specs.declared.answer.FlushRefusal.{FlushRefusal}
use Rattle.pcef_model.specs.declared.answer.Refusal.{Refusal}
use Rattle.pcef_model.specs.declared.answer.Verdicts.{Verdicts}
use Rattle.pcef_model.specs.declared.command.Command.{Command}
use Rattle.pcef_model.specs.Entries.{Journal}
use Rattle.pcef_model.specs.Journals.{attach_count, gen, now}
use Rattle.pcef_model.specs.Lawful.{BatchFollows}
use Rattle.pcef_model.specs.Outcomes.{CommandStep, CommandStepWithin, FinishStep, FlushAnswer, FlushStep, Gives, IsRefused, IsRefusedWithin, command_outcome, finish_answer_of, flush_answer_of}
use Rattle.pcef_model.specs.Refusals.{first_of, most_workers, refusals_within}
use Rattle.pcef_model.specs.Setting.{Setting}
use Rattle.pcef_table.specs.declared.entry.Source.{Source}
use Rattle.pcef_table.specs.Tables.{TableValue}
use Rattle.pcef_session.specs.declared.batch.Item.{Item}
use Rattle.pcef_session.specs.declared.prepared.Prepared.{Prepared}
use Rattle.pcef_session.specs.Agreement.{AreKept}
use Rattle.pcef_session.specs.Following.{row_of}
use Rattle.pcef_session.specs.Preparing.{IsPreparedFor, command_of}
use Rattle.pcef_session.specs.SessionModel.{SessionModel}
use Rattle.pcef_session.specs.Shown.{Shows}

-- ---- opening
-- a session that was just opened: this is fixed for it, its journal is empty, and nothing is forgotten
abbrev pub IsOpened : Setting → SessionModel → Type 0
IsOpened p s = (s.setting ≡ p) × (s.journal ≡ []) × (s.forgotten ≡ 0)

-- ---- commands
-- the session refuses a command, for this reason
abbrev pub Refuses : SessionModel → Command → Refusal → Type 0
Refuses s command refusal = IsRefused s.setting s.journal command refusal

-- the same in a room, where the session has one
abbrev pub RefusesWithin : SessionModel → Command → Option Sums → Refusal → Type 0
RefusesWithin s command room refusal = IsRefusedWithin s.setting s.journal command room refusal

-- nothing refuses a command in a room, where the session has one
abbrev pub AcceptsWithin : SessionModel → Command → Option Sums → Type 0
AcceptsWithin s command room = first_of (refusals_within s.setting s.journal command room) ≡ None

-- what was prepared for the session before is prepared for the session after, too
abbrev pub KeepsPrepared : SessionModel → SessionModel → Type 0
KeepsPrepared before after = (d : Prepared) → IsPreparedFor before d → IsPreparedFor after d

-- a command is accepted: its answer and the journal after it are as due
abbrev pub DoesCommand : SessionModel → Command → Accepted → SessionModel → Type 0
DoesCommand before command answer after =
    Gives (command_outcome before.setting before.journal command) (Ok answer) after.journal

-- so is a command that was prepared
abbrev pub Settles : SessionModel → Prepared → Accepted → SessionModel → Type 0
Settles before prepared answer after = DoesCommand before (command_of prepared) answer after

-- a command is answered as due, or refused when out of memory
abbrev pub AnswersCommand : SessionModel → Command → Result Accepted Refusal → SessionModel → Type 0
AnswersCommand before command result after = CommandStep before.setting command before.journal result after.journal

-- the same in a room, where the session has one
abbrev pub AnswersCommandWithin : SessionModel → Command → Option Sums → Result Accepted Refusal → SessionModel → Type 0
AnswersCommandWithin before command room result after = CommandStepWithin before.setting room command before.journal result after.journal

-- ---- rows that are handed over
-- the rows of these items may come next from a worker
abbrev pub MayComeNext : SessionModel → ℕ → List Item → Type 0
MayComeNext s worker items = BatchFollows s.setting s.journal worker (map row_of items)

-- the answer to a flush, with the verdicts as a list
abbrev pub flushed_of : Result Verdicts FlushRefusal → Result FlushAnswer FlushRefusal
flushed_of result = result_map_both flush_answer_of (λ e. e) result

-- the answer to a last flush, with the verdicts as a list
abbrev pub finished_of : Result (Verdicts × ℕ) FlushRefusal → Result (FlushAnswer × ℕ) FlushRefusal
finished_of result = result_map_both finish_answer_of (λ e. e) result

-- a worker's rows are answered as due, or refused when out of memory
abbrev pub AnswersFlush : SessionModel → ℕ → List Item → Result Verdicts FlushRefusal → SessionModel → Type 0
AnswersFlush before worker items result after =
    FlushStep before.setting worker (map row_of items) before.journal (flushed_of result) after.journal

-- a worker's last rows are answered as due, or refused when out of memory
abbrev pub AnswersFinish : SessionModel → ℕ → List Item → Result (Verdicts × ℕ) FlushRefusal → SessionModel → Type 0
AnswersFinish before worker items result after =
    FinishStep before.setting worker (map row_of items) before.journal (finished_of result) after.journal

-- ---- what is shown
-- the end of the lane of a worker that was ever attached, and none of another
abbrev pub IsLaneEnd : Journal → ℕ → Option LaneEnd → Type 0
IsLaneEnd j worker end =
    MatchOption end (attach_count j ≤ worker) (λ e. (worker < attach_count j) × (e ≡ lane_end j worker))

-- how many more workers may be attached
abbrev pub workers_left : Journal → ℕ
workers_left j = most_workers - attach_count j

-- the table of the newest generation
abbrev pub ShowsNewest : SessionModel → TableValue → Type 0
ShowsNewest s t = Shows s.setting s.journal (gen s.journal) t

-- the rules that are active now, by name, in the order in which they became active
abbrev pub AreActive : SessionModel → List (List ℕ × Source) → Type 0
AreActive s kept = AreKept s.setting.catalog kept (now s.setting s.journal).rules

-- what stands on the bearers now
abbrev pub binding_now : SessionModel → Binding
binding_now s = binding_of s.setting (now s.setting s.journal)
