use Rattle.std.specs.Prelude.{codes}
use Rattle.pcef_answer.proofs.WrittenTexts.{begun}
use Rattle.pcef_answer.proofs.show.push_bearers.Goals as goal

pub loop-id-init : goal.loop-id-init
loop-id-init c = begun _ _ (codes ",\"bearers\":[") _ c.in_ok-push_str.ensures.bytes
