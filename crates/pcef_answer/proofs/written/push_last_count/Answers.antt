use Rattle.pcef_answer.proofs.WrittenTexts.{pushed_two}
use Rattle.pcef_answer.proofs.written.push_last_count.Goals as goal

pub returns : goal.returns
returns c = pushed_two c.push_str.result _ _ _ _ _ c.in_ok-push_count.ensures c.push_str.ensures.bytes
