use Rattle.pcef_answer.proofs.WrittenTexts.{last_two}
use Rattle.pcef_answer.proofs.show.push_entry.Goals as goal

pub returns : goal.returns
returns c =
    let name = rw c.as_str.ensures.text at c.push_name.ensures in
    let told = last_two c.push_name.result _ _ _ _ _ c.in_ok-push_comma.ensures name in
    rw c.properties.ensures told
