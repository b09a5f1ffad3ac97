use Rattle.pcef_front.proofs.OneReading.{one_answer}
use Rattle.pcef_front.proofs.laws.one_answer.Goals as goal

pub returns : goal.returns
returns c = one_answer
