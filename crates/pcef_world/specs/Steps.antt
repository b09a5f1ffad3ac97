-- What the steps of a session and its workers answer, and how these stand after them (own choice).
use Rattle.std.specs.Prelude.{ℕ, ◌≡◌, ◌≤◌, ◌+◌, IfOk, Bool, true, false, List, [], ◌∷◌, ◌++◌, Option, Some, None, Result, Ok, Err, length, map, nat_le, slice_set, if◌then◌else◌}
use Rattle.std.specs.Result.{result_map_both}
use Rattle.pcef_packet.specs.declared.header.Header.{Header}
use Rattle.pcef_model.specs.declared.answer.Accepted.{Accepted}
use Rattle.pcef_model.specs.declared.answer.AttachFault.{AttachFault}
use Rattle.pcef_model.specs.declared.answer.FlushRefusal.{FlushRefusal}
use Rattle.pcef_model.specs.declared.answer.Refusal.{Refusal}
use Rattle.pcef_model.specs.declared.row.Row.{Row}
use Rattle.pcef_model.specs.declared.step.Step.{Step}
use Rattle.pcef_model.specs.declared.step.Step.TheVariants as of
use Rattle.pcef_model.specs.Setting.{Setting}
use Rattle.pcef_model.specs.Entries.{Journal}
use Rattle.pcef_model.specs.Journals.{at, gen, verdict_at, lane_len}
use Rattle.pcef_model.specs.Reports.{after_leave}
use Rattle.pcef_model.specs.Outcomes.{Outcome, FlushAnswer, attach_outcome, command_outcome, finish_outcome, flush_outcome, finish_answer_of, flush_answer_of}
use Rattle.pcef_session.specs.declared.batch.BatchFull.{BatchFull}
use Rattle.pcef_world.specs.declared.answer.Abandoned.{Abandoned}
use Rattle.pcef_world.specs.declared.answer.StepAnswer.{StepAnswer}
use Rattle.pcef_world.specs.declared.answer.StepAnswer.TheVariants as answer
use Rattle.pcef_world.specs.Worlds.{Waiting, World, waiting_at}

-- how a session and its workers stand: its journal, and a place for each worker that was ever
-- attached
pub record Standing : Type 0 where
  pub journal : Journal
  pub workers : List (Option Waiting)

abbrev pub at_start : Standing
at_start = record { journal = []; workers = [] }

abbrev pub standing_of : World → Standing
standing_of w = record { journal = w.session.journal; workers = w.workers }

-- a worker stands so at its place from then on, or has left it
abbrev pub with_place : ℕ → Option Waiting → Standing → Standing
with_place worker place s = record s { workers = slice_set s.workers worker place }

abbrev pub with_journal : Journal → Standing → Standing
with_journal j s = record s { journal = j }

-- ---- replies
-- what is answered to a step, with the verdicts on rows as a list
pub data Reply : Type 0 where
  command_reply : Result Accepted Refusal → Reply
  attach_reply : Result ℕ AttachFault → Reply
  refresh_reply : ℕ → Reply
  take_reply : Result ℕ BatchFull → Reply
  flush_reply : Result FlushAnswer FlushRefusal → Reply
  finish_reply : Result (FlushAnswer × ℕ) FlushRefusal → Reply
  abandon_reply : Abandoned → Reply
  no_worker : Reply

abbrev pub reply_of : StepAnswer → Reply
reply_of (answer.Command r) = command_reply r
reply_of (answer.Attach r) = attach_reply r
reply_of (answer.Refresh generation) = refresh_reply generation
reply_of (answer.Take r) = take_reply r
reply_of (answer.Flush r) = flush_reply (result_map_both flush_answer_of (λ e. e) r)
reply_of (answer.Finish r) = finish_reply (result_map_both finish_answer_of (λ e. e) r)
reply_of (answer.Abandon abandoned) = abandon_reply abandoned
reply_of answer.NoWorker = no_worker

-- no report that a reply may name is among the first `forgotten` ones
abbrev pub NamesKept : ℕ → Reply → Type 0
NamesKept forgotten (command_reply r) = IfOk r (λ a. forgotten ≤ a.first_report)
NamesKept forgotten (flush_reply r) = IfOk r (λ a. forgotten ≤ a.first_report)
NamesKept forgotten (finish_reply r) = IfOk r (λ a. forgotten ≤ a.0.first_report)
NamesKept forgotten other = Unit {0}

abbrev pub is_error : {A E : Type 0} → Result A E → Bool
is_error (Ok a) = false
is_error (Err e) = true

abbrev pub is_refusal : Reply → Bool
is_refusal (command_reply r) = is_error r
is_refusal (attach_reply r) = is_error r
is_refusal (refresh_reply generation) = false
is_refusal (take_reply r) = is_error r
is_refusal (flush_reply r) = is_error r
is_refusal (finish_reply r) = is_error r
is_refusal (abandon_reply abandoned) = false
is_refusal no_worker = true

-- ---- commands
abbrev pub command_step : Standing → Outcome Accepted Refusal → Reply × Standing
command_step s due = (command_reply due.0, with_journal due.1 s)

-- ---- attaching a worker
-- it holds the newest generation, and no row waits
abbrev pub new_worker : Journal → Waiting
new_worker j = record { generation = gen j; rows = [] }

abbrev pub attach_step : Standing → Outcome ℕ AttachFault → Reply × Standing
attach_step s (Ok number, after) =
    (attach_reply (Ok number), record { journal = after; workers = s.workers ++ Some (new_worker s.journal) ∷ [] })
attach_step s (Err fault, after) = (attach_reply (Err fault), s)

-- ---- a worker takes a packet
abbrev pub most_waiting : ℕ
most_waiting = 32

-- its next row, with the verdict of the generation that it holds
abbrev pub row_taken : Setting → Journal → ℕ → Waiting → Header → Row
row_taken p j worker w header = record {
  worker = worker;
  seq = lane_len j worker + length w.rows;
  generation = w.generation;
  header = header;
  verdict = verdict_at p (at p j w.generation) header;
}

abbrev pub with_row : Row → Waiting → Waiting
with_row r w = record w { rows = w.rows ++ r ∷ [] }

-- what is answered is how many rows wait then
abbrev pub take_step : Setting → Standing → ℕ → Header → Option Waiting → Reply × Standing
take_step p s worker header None = (no_worker, s)
take_step p s worker header (Some w) =
    if nat_le most_waiting (length w.rows) then (take_reply (Err (record {})), s)
    else (
      take_reply (Ok (length w.rows + 1)),
      with_place worker (Some (with_row (row_taken p s.journal worker w header) w)) s,
    )

-- ---- a worker takes the newest generation
abbrev pub with_generation : ℕ → Waiting → Waiting
with_generation g w = record w { generation = g }

-- its rows go on waiting
abbrev pub refresh_step : Standing → ℕ → Option Waiting → Reply × Standing
refresh_step s worker None = (no_worker, s)
refresh_step s worker (Some w) =
    (refresh_reply (gen s.journal), with_place worker (Some (with_generation (gen s.journal) w)) s)

-- ---- a worker hands its rows over
abbrev pub with_none : Waiting → Waiting
with_none w = record w { rows = [] }

-- they wait no longer, or they are refused and all stays as it is
abbrev pub handed_over : Standing → ℕ → Waiting → Outcome FlushAnswer FlushRefusal → Reply × Standing
handed_over s worker w (Ok answered, after) =
    (flush_reply (Ok answered), with_place worker (Some (with_none w)) (with_journal after s))
handed_over s worker w (Err r, after) = (flush_reply (Err r), s)

abbrev pub flush_step : Setting → Standing → ℕ → Option Waiting → Reply × Standing
flush_step p s worker None = (no_worker, s)
flush_step p s worker (Some w) = handed_over s worker w (flush_outcome p s.journal worker w.rows)

-- ---- a worker leaves
-- with its last rows: its place is empty from then on, or they are refused and all stays as it is
abbrev pub finished : Standing → ℕ → Outcome (FlushAnswer × ℕ) FlushRefusal → Reply × Standing
finished s worker (Ok answered, after) = (finish_reply (Ok answered), with_place worker None (with_journal after s))
finished s worker (Err r, after) = (finish_reply (Err r), s)

abbrev pub finish_step : Setting → Standing → ℕ → Option Waiting → Reply × Standing
finish_step p s worker None = (no_worker, s)
finish_step p s worker (Some w) = finished s worker (finish_outcome p s.journal worker w.rows)

-- without its waiting rows: the answer has how many these are, and the length of the lane
abbrev pub abandoned_of : Journal → ℕ → Waiting → Abandoned
abandoned_of j worker w = record { waiting = length w.rows; rows = lane_len j worker }

abbrev pub abandon_step : Standing → ℕ → Option Waiting → Reply × Standing
abandon_step s worker None = (no_worker, s)
abandon_step s worker (Some w) =
    (abandon_reply (abandoned_of s.journal worker w), with_place worker None (with_journal (after_leave worker s.journal) s))

-- ---- steps
-- what is answered to a step, and how all stands after it
unfoldable pub step_outcome : Setting → Standing → Step → Reply × Standing
step_outcome p s (of.Command c) = command_step s (command_outcome p s.journal c)
step_outcome p s of.Attach = attach_step s (attach_outcome s.journal)
step_outcome p s (of.Take worker header) = take_step p s worker header (waiting_at s.workers worker)
step_outcome p s (of.Refresh worker) = refresh_step s worker (waiting_at s.workers worker)
step_outcome p s (of.Flush worker) = flush_step p s worker (waiting_at s.workers worker)
step_outcome p s (of.Finish worker) = finish_step p s worker (waiting_at s.workers worker)
step_outcome p s (of.Abandon worker) = abandon_step s worker (waiting_at s.workers worker)

-- the answer is due, and all stands as it is due
abbrev pub Plays : Setting → Standing → Step → StepAnswer → Standing → Type 0
Plays p before step a after =
    (reply_of a ≡ (step_outcome p before step).0) × (after ≡ (step_outcome p before step).1)

-- memory is wanting for a step that nothing refuses, and nothing changes
abbrev pub Lacks : Setting → Standing → Step → Standing → Type 0
Lacks p before step after = (is_refusal (step_outcome p before step).0 ≡ false) × (after ≡ before)

-- one reply more, before those to the steps that follow
abbrev pub first_reply : Reply → List Reply × Standing → List Reply × Standing
first_reply reply rest = (reply ∷ rest.0, rest.1)

-- steps, one after the other
unfoldable pub play : Setting → Standing → List Step → List Reply × Standing
play p s [] = ([], s)
play p s (step ∷ steps) = first_reply (step_outcome p s step).0 (play p (step_outcome p s step).1 steps)

-- the answers are due to the steps, and all stands as it is due
abbrev pub Played : Setting → Standing → List Step → List StepAnswer → Standing → Type 0
Played p before steps answers after = (map reply_of answers ≡ (play p before steps).0) × (after ≡ (play p before steps).1)

-- some of the steps, from the first on, are made, and nothing else changes
abbrev pub PlaysFront : Setting → Standing → List Step → Standing → Type 0
PlaysFront p before steps after =
    (front rest : List Step) × (steps ≡ front ++ rest) × (after ≡ (play p before front).1)

-- ---- a world and its steps
-- a world makes a step, with the answer that is due
abbrev pub MakesStep : World → Step → StepAnswer → World → Type 0
MakesStep before step a after = Plays before.session.setting (standing_of before) step a (standing_of after)

-- a world lacks memory for a step that nothing refuses, and stays as it is
abbrev pub LacksForStep : World → Step → World → Type 0
LacksForStep before step after = Lacks before.session.setting (standing_of before) step (standing_of after)

-- a world makes steps, one after the other, with the answers that are due
abbrev pub MakesSteps : World → List Step → List StepAnswer → World → Type 0
MakesSteps before steps answers after =
    Played before.session.setting (standing_of before) steps answers (standing_of after)

-- a world makes some of the steps, from the first on, and nothing else changes
abbrev pub MakesFront : World → List Step → World → Type 0
MakesFront before steps after = PlaysFront before.session.setting (standing_of before) steps (standing_of after)
