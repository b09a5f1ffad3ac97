use Rattle.pcef_answer.proofs.WrittenTexts.{pushed_three}
use Rattle.pcef_answer.proofs.report.push_last.Goals as goal

pub returns : goal.returns
returns c = pushed_three c.push_str.result _ _ _ _ _ _ _ c.in_ok-push_count.ensures c.in_ok-push_name.ensures c.push_str.ensures.bytes
