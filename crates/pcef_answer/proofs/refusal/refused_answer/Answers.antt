use Rattle.json.specs.Print.{escape_byte}
use Rattle.pcef_answer.specs.RefusalAnswers.{refused_text}
use Rattle.pcef_answer.proofs.refusal.refused_answer.Goals as goal

pub returns : goal.returns
unfolding refused_text escape_byte
returns c = rw c.in_ok-text.ensures.bytes at c.in_ok-push_refused.ensures
