use Rattle.pcef_answer.proofs.PlainWords.{plain_field}
use Rattle.pcef_answer.proofs.WrittenTexts.{last_three}
use Rattle.pcef_answer.proofs.fault.push_field.Goals as goal

pub push_word-requires : goal.push_word-requires
push_word-requires c = rw c.text.ensures (plain_field c.args.field)

pub returns : goal.returns
returns c =
    let number = rw (c.from.ensures, c.number.ensures) at c.in_ok-push_count.ensures in
    let field = rw c.text.ensures at c.in_ok-push_word.ensures in
    last_three c.push_last.result _ _ _ _ _ _ _ number field c.push_last.ensures
