use Rattle.json.specs.Print.{escape_byte}
use Rattle.pcef_answer.proofs.WrittenTexts.{last_two}
use Rattle.pcef_answer.proofs.refusal.push_counted.Goals as goal

pub returns : goal.returns
unfolding escape_byte
returns c =
    let count = rw c.from.ensures at c.in_ok-push_count.ensures in
    last_two c.push_refused.result _ _ _ _ _ count c.push_refused.ensures
