-- A command as a step is answered as it is without workers.
use Rattle.std.proofs.Common.{◌≡◌, Ok, Err, ap, inl, refl}
use Rattle.pcef_model.specs.declared.command.Command.{Command}
use Rattle.pcef_model.specs.declared.step.Step.TheVariants as of
use Rattle.pcef_world.specs.declared.answer.StepAnswer.{StepAnswer}
use Rattle.pcef_world.specs.declared.answer.StepAnswer.TheVariants as answer
use Rattle.pcef_world.specs.Steps.{MakesStep, Standing, step_outcome}
use Rattle.pcef_world.specs.Worlds.{World}
use Rattle.pcef_renewal.specs.private.Answering.{IsAnswered, accepted_of}
use Rattle.pcef_renewal.proofs.Played.{not_done}

pub answered : (before after : World) (c : Command) (a : StepAnswer) → MakesStep before (of.Command c) a after → IsAnswered before c (accepted_of a) after
unfolding step_outcome
answered before after c (answer.Command (Ok accepted)) plays = (let e = plays.0 in cc, ap (λ (s : Standing). s.journal) plays.1)
answered before after c (answer.Command (Err r)) plays =
    let journal = not_done before.session.setting c before.session.journal after.session.journal r (inl (let e = plays.0 in cc, ap (λ (s : Standing). s.journal) plays.1)) in
    let workers : after.workers ≡ before.workers = ap (λ (s : Standing). s.workers) plays.1 in
    rw (journal, workers) refl
answered before after c (answer.Attach r) plays = absurd (let e = plays.0 in cc)
answered before after c (answer.Refresh g) plays = absurd (let e = plays.0 in cc)
answered before after c (answer.Take r) plays = absurd (let e = plays.0 in cc)
answered before after c (answer.Flush r) plays = absurd (let e = plays.0 in cc)
answered before after c (answer.Finish r) plays = absurd (let e = plays.0 in cc)
answered before after c (answer.Abandon r) plays = absurd (let e = plays.0 in cc)
answered before after c answer.NoWorker plays = absurd (let e = plays.0 in cc)
