use Rattle.json.specs.Print.{escape_byte}
use Rattle.pcef_answer.proofs.WrittenTexts.{last_three}
use Rattle.pcef_answer.proofs.show.push_bearer.Goals as goal

pub returns : goal.returns
unfolding escape_byte
returns c =
    let id = rw c.from.ensures at c.in_ok-push_count-2.ensures in
    let rules = rw c.from-2.ensures at c.in_ok-push_count-3.ensures in
    let end = last_three c.push_last_count.result _ _ _ _ _ _ _ id rules c.push_last_count.ensures in
    last_three c.push_last_count.result _ _ _ _ _ _ _ c.in_ok-push_comma.ensures c.in_ok-push_count.ensures end
