use Rattle.pcef_answer.proofs.WrittenTexts.{pushed_three}
use Rattle.pcef_answer.proofs.refusal.push_refused.Goals as goal

pub returns : goal.returns
returns c =
    let number = rw c.from.ensures at c.in_ok-push_count.ensures in
    pushed_three c.push_str.result _ _ _ _ _ _ _ c.in_ok-push_word.ensures number c.push_str.ensures.bytes
