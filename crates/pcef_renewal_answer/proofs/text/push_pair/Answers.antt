use Rattle.json.specs.Print.{escape_byte}
use Rattle.pcef_answer.proofs.WrittenTexts.{pushed_three}
use Rattle.pcef_renewal_answer.proofs.text.push_pair.Goals as goal

pub returns : goal.returns
unfolding escape_byte
returns c = pushed_three c.push_str.result _ _ _ _ _ _ _ c.in_ok-push_bearer.ensures c.in_ok-push_bearer-2.ensures c.push_str.ensures.bytes
