use Rattle.json.specs.Print.{escape_byte}
use Rattle.pcef_answer.proofs.PlainWords.{plain_cause}
use Rattle.pcef_answer.proofs.WrittenTexts.{last_three, pushed_three}
use Rattle.pcef_answer.proofs.report.push_usage.Goals as goal

pub push_word-requires : goal.push_word-requires
push_word-requires c = rw c.cause_text.ensures (plain_cause c.args.cause)

pub returns : goal.returns
unfolding escape_byte
returns c =
    let cause = rw c.cause_text.ensures at c.in_ok-push_word.ensures in
    let key = rw c.as_str.ensures.text at c.in_ok-push_name.ensures in
    let end = pushed_three c.push_str.result _ _ _ _ _ _ _ c.in_ok-push_count.ensures c.in_ok-push_count-2.ensures c.push_str.ensures.bytes in
    last_three c.push_str.result _ _ _ _ _ _ _ cause key end
