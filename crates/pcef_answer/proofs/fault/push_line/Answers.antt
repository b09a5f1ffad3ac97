use Rattle.json.specs.Print.{escape_byte}
use Rattle.pcef_answer.proofs.WrittenTexts.{last_two}
use Rattle.pcef_answer.proofs.fault.push_line.Goals as goal

pub returns : goal.returns
unfolding escape_byte
returns c =
    let number = rw (c.from.ensures, c.number.ensures) at c.in_ok-push_count.ensures in
    last_two c.push_last.result _ _ _ _ _ number c.push_last.ensures
