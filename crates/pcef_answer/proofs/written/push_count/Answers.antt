use Rattle.pcef_answer.proofs.WrittenTexts.{last_two}
use Rattle.pcef_answer.proofs.written.push_count.Goals as goal

pub returns : goal.returns
returns c = last_two c.push_number.result _ _ _ _ _ c.in_ok-push_str.ensures.bytes c.push_number.ensures
