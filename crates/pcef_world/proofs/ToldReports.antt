-- Replies name reports that the journal gets with the step, and none from before.
use Rattle.std.proofs.Common.{◌≤◌, ◌≡◌, ◌+◌, arith, subst, sym, ℕ, Bool, true, false, Option, None, Some, Ok, Err, if◌then◌else◌}
use Rattle.std.specs.Prelude.{nat_le, length}
use Rattle.pcef_packet.specs.declared.header.Header.{Header}
use Rattle.pcef_model.specs.declared.answer.AttachFault.{AttachFault}
use Rattle.pcef_model.specs.declared.answer.FlushRefusal.{FlushRefusal}
use Rattle.pcef_model.specs.declared.answer.Refusal.{Refusal}
use Rattle.pcef_model.specs.declared.command.Command.{Command}
use Rattle.pcef_model.specs.declared.step.Step.{Step}
use Rattle.pcef_model.specs.declared.step.Step.TheVariants as of
use Rattle.pcef_model.specs.Setting.{Setting}
use Rattle.pcef_model.specs.Journals.{report_count}
use Rattle.pcef_model.specs.Outcomes.{accepted, attach_outcome, attach_outcome_by, changes, command_outcome, command_outcome_by, finish_outcome, finish_outcome_by, flush_outcome, flush_outcome_by}
use Rattle.pcef_model.specs.Reports.{after_command}
use Rattle.pcef_model.specs.Refusals.{attach_faults, first_of, flush_refusals, refusals}
use Rattle.pcef_world.specs.Steps.{MakesStep, Plays, Reply, Standing, abandon_reply, attach_reply, command_reply, finish_reply, flush_reply, no_worker, refresh_reply, NamesKept, abandon_step, attach_step, command_step, finish_step, finished, flush_step, handed_over, most_waiting, refresh_step, reply_of, row_taken, standing_of, step_outcome, take_reply, take_step, with_place, with_row}
use Rattle.pcef_world.specs.declared.answer.StepAnswer.{StepAnswer}
use Rattle.pcef_world.specs.Worlds.{Waiting, World, waiting_at}

module _ (p : Setting) (s : Standing) (forgotten : ℕ) (kept : forgotten ≤ report_count s.journal) where
  told_of_command : (c : Command) (refused : Option Refusal) → NamesKept forgotten (command_step s (command_outcome_by p s.journal c refused)).0
  told_of_command c (Some r) = tt
  told_of_command c None =
      elim (changes p s.journal c) as (λ b. NamesKept forgotten (command_step s (if b then (Ok (accepted p c s.journal (after_command p s.journal c) false), after_command p s.journal c) else (Ok (accepted p c s.journal s.journal true), s.journal))).0) [
        | true ↦ kept
        | false ↦ kept
      ]

  told_of_attach : (fault : Option AttachFault) → NamesKept forgotten (attach_step s (attach_outcome_by s.journal fault)).0
  told_of_attach (Some f) = tt
  told_of_attach None = tt

  abbrev taken_by : Bool → ℕ → Header → Waiting → Reply × Standing
  taken_by full worker header w =
      if full then (take_reply (Err (record {})), s)
      else (take_reply (Ok (length w.rows + 1)), with_place worker (Some (with_row (row_taken p s.journal worker w header) w)) s)

  told_of_take : (worker : ℕ) (header : Header) (place : Option Waiting) → NamesKept forgotten (take_step p s worker header place).0
  told_of_take worker header None = tt
  told_of_take worker header (Some w) =
      elim (nat_le most_waiting (length w.rows)) as (λ b. NamesKept forgotten (taken_by b worker header w).0) [
        | true ↦ tt
        | false ↦ tt
      ]

  told_of_refresh : (worker : ℕ) (place : Option Waiting) → NamesKept forgotten (refresh_step s worker place).0
  told_of_refresh worker None = tt
  told_of_refresh worker (Some w) = tt

  handed : (worker : ℕ) (w : Waiting) (refused : Option FlushRefusal) → NamesKept forgotten (handed_over s worker w (flush_outcome_by p s.journal w.rows refused)).0
  handed worker w (Some r) = tt
  handed worker w None = kept

  told_of_flush : (worker : ℕ) (place : Option Waiting) → NamesKept forgotten (flush_step p s worker place).0
  unfolding flush_outcome
  told_of_flush worker None = tt
  told_of_flush worker (Some w) = handed worker w (first_of (flush_refusals p s.journal worker (length w.rows)))

  left : (worker : ℕ) (w : Waiting) (refused : Option FlushRefusal) → NamesKept forgotten (finished s worker (finish_outcome_by p s.journal worker w.rows refused)).0
  left worker w (Some r) = tt
  left worker w None = kept

  told_of_finish : (worker : ℕ) (place : Option Waiting) → NamesKept forgotten (finish_step p s worker place).0
  unfolding finish_outcome
  told_of_finish worker None = tt
  told_of_finish worker (Some w) = left worker w (first_of (flush_refusals p s.journal worker (length w.rows)))

  told_of_abandon : (worker : ℕ) (place : Option Waiting) → NamesKept forgotten (abandon_step s worker place).0
  told_of_abandon worker None = tt
  told_of_abandon worker (Some w) = tt

  -- so a step names no report that was forgotten before it
  pub names_kept : (step : Step) → NamesKept forgotten (step_outcome p s step).0
  unfolding step_outcome command_outcome attach_outcome
  names_kept (of.Command c) = told_of_command c (first_of (refusals p s.journal c))
  names_kept of.Attach = told_of_attach (first_of (attach_faults s.journal))
  names_kept (of.Take worker header) = told_of_take worker header (waiting_at s.workers worker)
  names_kept (of.Refresh worker) = told_of_refresh worker (waiting_at s.workers worker)
  names_kept (of.Flush worker) = told_of_flush worker (waiting_at s.workers worker)
  names_kept (of.Finish worker) = told_of_finish worker (waiting_at s.workers worker)
  names_kept (of.Abandon worker) = told_of_abandon worker (waiting_at s.workers worker)

-- a step that a world makes is one of any world that stands so
pub made_same : (u v w : World) (step : Step) (a : StepAnswer) → u.session.setting ≡ v.session.setting → standing_of u ≡ standing_of v →
    MakesStep u step a w → MakesStep v step a w
made_same u v w step a setting standing made =
    subst (λ (p : Setting). Plays p (standing_of v) step a (standing_of w)) setting
    (subst (λ (s : Standing). Plays u.session.setting s step a (standing_of w)) standing made)

-- the answer of a world names no report that is forgotten
pub answered_by_world : (v w : World) (step : Step) (a : StepAnswer) (forgotten : ℕ) → forgotten ≤ report_count v.session.journal →
    MakesStep v step a w → NamesKept forgotten (reply_of a)
answered_by_world v w step a forgotten kept made =
    subst (λ (r : Reply). NamesKept forgotten r) (sym made.0) (names_kept v.session.setting (standing_of v) forgotten kept step)

-- where nothing is forgotten, no report is
pub all_kept : (forgotten : ℕ) (reply : Reply) → forgotten ≡ 0 → NamesKept forgotten reply
all_kept forgotten (command_reply (Ok a)) none = omega (arith, none)
all_kept forgotten (command_reply (Err r)) none = tt
all_kept forgotten (attach_reply r) none = tt
all_kept forgotten (refresh_reply generation) none = tt
all_kept forgotten (take_reply r) none = tt
all_kept forgotten (flush_reply (Ok told)) none = omega (arith, none)
all_kept forgotten (flush_reply (Err r)) none = tt
all_kept forgotten (finish_reply (Ok told)) none = omega (arith, none)
all_kept forgotten (finish_reply (Err r)) none = tt
all_kept forgotten (abandon_reply abandoned) none = tt
all_kept forgotten no_worker none = tt
