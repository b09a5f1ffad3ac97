use Rattle.pcef_answer.specs.StepAnswers.{finished_text}
use Rattle.pcef_answer.proofs.step.finished_answer.Goals as goal

pub returns-in-Err : goal.returns-in-Err
unfolding finished_text
returns-in-Err c = rw c.in-Err.is c.flush_refusal_answer.ensures

pub returns-in-Ok : goal.returns-in-Ok
unfolding finished_text
returns-in-Ok c = rw c.in-Ok.is c.text_of_finish.ensures
