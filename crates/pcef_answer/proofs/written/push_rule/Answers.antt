use Rattle.pcef_answer.proofs.WrittenTexts.{pushed_three}
use Rattle.pcef_answer.proofs.written.push_rule.Goals as goal

pub returns : goal.returns
returns c =
    let name = rw c.as_str.ensures.text at c.in_ok-push_escaped.ensures in
    pushed_three c.push_str-2.result _ _ _ _ _ _ _ c.in_ok-push_str.ensures.bytes name c.push_str-2.ensures.bytes
