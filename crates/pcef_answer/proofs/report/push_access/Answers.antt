use Rattle.json.specs.Print.{escape_byte}
use Rattle.pcef_answer.proofs.PlainWords.{plain_kind}
use Rattle.pcef_answer.proofs.WrittenTexts.{last_two}
use Rattle.pcef_answer.proofs.report.push_access.Goals as goal

pub push_word-requires : goal.push_word-requires
push_word-requires c = rw c.event_text.ensures (plain_kind c.args.kind)

pub returns : goal.returns
unfolding escape_byte
returns c =
    let kind = rw c.event_text.ensures at c.in_ok-push_word.ensures in
    let value = rw c.as_str.ensures.text at c.push_last.ensures in
    last_two c.push_last.result _ _ _ _ _ kind value
