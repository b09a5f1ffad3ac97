use Rattle.pcef_answer.proofs.WrittenTexts.{last_two}
use Rattle.pcef_renewal_answer.proofs.text.push_bearer.Goals as goal

pub returns : goal.returns
returns c = last_two c.push_number.result _ _ _ _ _ c.in_ok-push_str.ensures.bytes c.push_number.ensures
