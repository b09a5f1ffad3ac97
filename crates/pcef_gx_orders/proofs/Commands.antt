-- The commands of a world are those of its session.
use Rattle.std.proofs.Common.{◌≡◌, ◌∙◌, ◌⊎◌, ℕ, Bool, true, false, refl, sym, ap, inl, inr, Some, None, Err, Ok}
use Rattle.std.specs.Prelude.{Option, Result, IfErr, IfOk}
use Rattle.pcef_model.specs.declared.answer.Accepted.{Accepted}
use Rattle.pcef_model.specs.declared.answer.Refusal.{Refusal}
use Rattle.pcef_model.specs.declared.answer.Refusal.TheVariants as refusal
use Rattle.pcef_model.specs.declared.command.Command.{Command}
use Rattle.pcef_model.specs.declared.step.Step.TheVariants as of
use Rattle.pcef_model.specs.Entries.{Journal}
use Rattle.pcef_model.specs.Setting.{Setting}
use Rattle.pcef_model.specs.Outcomes.{CommandStep, command_outcome, command_outcome_by}
use Rattle.pcef_model.specs.Refusals.{first_of, refusals}
use Rattle.pcef_world.specs.Steps.{LacksForStep, MakesStep, command_reply, is_error, reply_of, standing_of, step_outcome}
use Rattle.pcef_world.specs.Worlds.{World}
use Rattle.pcef_world.specs.declared.answer.StepAnswer.{StepAnswer}
use Rattle.pcef_world.specs.declared.answer.StepAnswer.TheVariants as answer
use Rattle.std.specs.declared.alloc.AllocError.{AllocError}
use Rattle.pcef_gx_orders.specs.Carrying.{Answers}
use Rattle.pcef_gx_orders.specs.Fates.{command_answer}

answer_in : (a b : Result Accepted Refusal) → command_reply a ≡ command_reply b → a ≡ b
answer_in a b same = cc

-- the answer to a command, and the journal after it, are as due
pub commanded : (before after : World) (c : Command) (r : Result Accepted Refusal) → MakesStep before (of.Command c) (answer.Command r) after → Answers before c r after
unfolding step_outcome
commanded before after c r made =
    inl (answer_in r (command_outcome before.session.setting before.session.journal c).0 made.0, ap (λ s. s.journal) made.1)

-- no worker comes or goes
pub workers_stay : (before after : World) (c : Command) (a : StepAnswer) → MakesStep before (of.Command c) a after → after.workers ≡ before.workers
unfolding step_outcome
workers_stay before after c a made = ap (λ s. s.workers) made.1

accepted_only : (p : Setting) (j : Journal) (c : Command) (o : Option Refusal) → is_error (command_outcome_by p j c o).0 ≡ false → o ≡ None
accepted_only p j c None accepted = refl
accepted_only p j c (Some r) accepted = absurd cc

-- memory is wanting only where nothing refuses
pub lacked : (before after : World) (c : Command) → LacksForStep before (of.Command c) after → Answers before c (Err refusal.NoMemory) after
unfolding step_outcome command_outcome
lacked before after c lacks =
    inr (
      accepted_only before.session.setting before.session.journal c (first_of (refusals before.session.setting before.session.journal c)) lacks.0,
      (refl, ap (λ s. s.journal) lacks.1),
    )

pub workers_wait : (before after : World) (c : Command) → LacksForStep before (of.Command c) after → after.workers ≡ before.workers
workers_wait before after c lacks = ap (λ s. s.workers) lacks.1

-- nothing else is answered to a command
only_answered : (before after : World) (c : Command) (a : StepAnswer) → MakesStep before (of.Command c) a after → Answers before c (command_answer (Ok a)) after
unfolding step_outcome
only_answered before after c (answer.Command r) made = commanded before after c r made
only_answered before after c (answer.Attach r) made = absurd (let e = made.0 in cc)
only_answered before after c (answer.Refresh generation) made = absurd (let e = made.0 in cc)
only_answered before after c (answer.Take r) made = absurd (let e = made.0 in cc)
only_answered before after c (answer.Flush r) made = absurd (let e = made.0 in cc)
only_answered before after c (answer.Finish r) made = absurd (let e = made.0 in cc)
only_answered before after c (answer.Abandon abandoned) made = absurd (let e = made.0 in cc)
only_answered before after c answer.NoWorker made = absurd (let e = made.0 in cc)

-- a step that is a command answers it, and no worker comes or goes
pub step_answers : (before after : World) (c : Command) (r : Result StepAnswer AllocError) →
    IfOk r (λ a. MakesStep before (of.Command c) a after) → IfErr r (λ _. LacksForStep before (of.Command c) after) →
    Answers before c (command_answer r) after × (after.workers ≡ before.workers)
step_answers before after c (Ok a) made lacks = (only_answered before after c a made, workers_stay before after c a made)
step_answers before after c (Err e) made lacks = (lacked before after c lacks, workers_wait before after c lacks)
