use Rattle.pcef_answer.specs.StepAnswers.{command_text}
use Rattle.pcef_answer.proofs.step.command_answer.Goals as goal

pub returns-in-Err : goal.returns-in-Err
unfolding command_text
returns-in-Err c = rw c.in-Err.is c.refusal_answer.ensures

pub returns-in-Ok : goal.returns-in-Ok
unfolding command_text
returns-in-Ok c = rw c.in-Ok.is c.text_of_accepted.ensures
