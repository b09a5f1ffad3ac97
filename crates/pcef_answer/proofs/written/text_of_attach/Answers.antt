use Rattle.json.specs.Print.{escape_byte}
use Rattle.pcef_answer.proofs.WrittenTexts.{two_alone}
use Rattle.pcef_answer.proofs.written.text_of_attach.Goals as goal

pub returns : goal.returns
unfolding escape_byte
returns c =
    let generation = rw c.from.ensures at c.in_ok-push_count.ensures in
    let worker = rw c.from-2.ensures at c.in_ok-push_last_count.ensures in
    two_alone _ _ _ _ _ c.in_ok-text.ensures.bytes generation worker
