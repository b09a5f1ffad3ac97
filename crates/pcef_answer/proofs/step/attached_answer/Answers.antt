use Rattle.pcef_answer.specs.StepAnswers.{attached_text}
use Rattle.pcef_answer.proofs.step.attached_answer.Goals as goal

pub returns-in-Err : goal.returns-in-Err
unfolding attached_text
returns-in-Err c = rw c.in-Err.is c.attach_fault_answer.ensures

pub returns-in-Ok : goal.returns-in-Ok
unfolding attached_text
returns-in-Ok c = rw c.in-Ok.is c.text_of_attach.ensures
