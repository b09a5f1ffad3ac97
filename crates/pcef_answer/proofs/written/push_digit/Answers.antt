use Rattle.pcef_answer.proofs.WrittenTexts.{digit_pushed}
use Rattle.pcef_answer.proofs.written.push_digit.Goals as goal

pub returns : goal.returns
returns c = digit_pushed c.push.result _ _ _ c.args.digit _ c.requires c.from.ensures c.push.ensures.ascii c.push.ensures.bytes
