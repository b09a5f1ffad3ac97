use Rattle.std.proofs.Common.{◌∙◌, sym}
use Rattle.pcef_answer.proofs.WrittenTexts.{plain_pushed, special_pushed}
use Rattle.pcef_answer.proofs.written.push_byte.Goals as goal

pub returns-in_ok-push_str : goal.returns-in_ok-push_str
returns-in_ok-push_str c =
    special_pushed c.push.result _ _ _ _ c.args.byte _ c.requires (sym c.is_special.ensures ∙ c.if-is_special.true) c.from.ensures c.push.ensures.ascii c.in_ok-push_str.ensures.bytes c.push.ensures.bytes

pub returns-else-is_special : goal.returns-else-is_special
returns-else-is_special c =
    plain_pushed c.push-else-is_special.result _ _ _ c.args.byte _ c.requires (sym c.is_special.ensures ∙ c.if-is_special.false) c.from-else-is_special.ensures c.push-else-is_special.ensures.ascii c.push-else-is_special.ensures.bytes
