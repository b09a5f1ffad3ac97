use Rattle.json.specs.Print.{escape_byte}
use Rattle.pcef_answer.proofs.PlainWords.{plain_inactive}
use Rattle.pcef_answer.proofs.WrittenTexts.{last_two}
use Rattle.pcef_answer.proofs.report.push_inactive.Goals as goal

pub push_word-requires : goal.push_word-requires
push_word-requires c = rw c.inactive_text.ensures (plain_inactive c.args.cause)

pub returns : goal.returns
unfolding escape_byte
returns c =
    let cause = rw c.inactive_text.ensures at c.in_ok-push_word.ensures in
    let rule = rw c.as_str.ensures.text at c.push_last.ensures in
    last_two c.push_last.result _ _ _ _ _ cause rule
