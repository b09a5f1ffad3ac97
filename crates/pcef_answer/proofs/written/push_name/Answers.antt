use Rattle.pcef_answer.proofs.WrittenTexts.{pushed_three}
use Rattle.pcef_answer.proofs.written.push_name.Goals as goal

pub returns : goal.returns
returns c = pushed_three c.push_str-2.result _ _ _ _ _ _ _ c.in_ok-push_str.ensures.bytes c.in_ok-push_escaped.ensures c.push_str-2.ensures.bytes
