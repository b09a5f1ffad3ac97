use Rattle.pcef_answer.proofs.WrittenTexts.{pushed_three}
use Rattle.pcef_answer.proofs.written.push_ruleless.Goals as goal

pub returns : goal.returns
returns c =
    let number = rw c.from.ensures at c.in_ok-push_number.ensures in
    pushed_three c.push_str-2.result _ _ _ _ _ _ _ c.in_ok-push_str.ensures.bytes number c.push_str-2.ensures.bytes
