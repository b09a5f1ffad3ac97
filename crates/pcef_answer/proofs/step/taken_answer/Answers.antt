use Rattle.std.proofs.Common.{refl}
use Rattle.json.specs.Print.{escape_byte}
use Rattle.pcef_answer.specs.RefusalAnswers.{batch_full_text}
use Rattle.pcef_answer.specs.StepAnswers.{taken_text}
use Rattle.pcef_answer.proofs.step.taken_answer.Goals as goal

pub refused_answer-requires : goal.refused_answer-requires
unfolding escape_byte
refused_answer-requires c = refl

pub returns-in-Err : goal.returns-in-Err
unfolding taken_text batch_full_text
returns-in-Err c = rw c.in-Err.is c.refused_answer.ensures

pub returns-in-Ok : goal.returns-in-Ok
unfolding taken_text
returns-in-Ok c = rw c.in-Ok.is c.text_of_take.ensures
