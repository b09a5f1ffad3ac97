use Rattle.pcef_answer.proofs.WrittenTexts.{two_digits_pushed}
use Rattle.pcef_answer.proofs.written.push_two_digits.Goals as goal

pub returns : goal.returns
returns c = two_digits_pushed c.push_digit-2.result _ _ _ c.args.number c.requires.0 c.requires.1 c.in_ok-push_digit.ensures c.push_digit-2.ensures
