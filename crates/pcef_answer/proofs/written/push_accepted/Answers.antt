use Rattle.json.specs.Print.{escape_byte}
use Rattle.pcef_answer.proofs.WrittenTexts.{last_two}
use Rattle.pcef_answer.proofs.written.push_accepted.Goals as goal

pub returns-in-None : goal.returns-in-None
unfolding escape_byte
returns-in-None c = rw c.in-None.is c.push_change.ensures

pub returns-in_ok-push_count-in-Some : goal.returns-in_ok-push_count-in-Some
unfolding escape_byte
returns-in_ok-push_count-in-Some c =
    let bearer = rw c.from.ensures at c.in_ok-push_count-in-Some.ensures in
    rw c.in-Some.is (last_two c.push_change-in-Some.result _ _ _ _ _ bearer c.push_change-in-Some.ensures)
