use Rattle.json.specs.Print.{escape_byte}
use Rattle.pcef_answer.proofs.WrittenTexts.{three, three_alone}
use Rattle.pcef_answer.proofs.written.text_of_finish.Goals as goal

pub returns : goal.returns
unfolding escape_byte
returns c =
    let rows = rw c.deref.ensures.value at c.in_ok-push_verdicts.ensures in
    let end = three _ _ _ _ _ _ _ c.in_ok-push_str-3.ensures.bytes rows c.in_ok-push_str-4.ensures.bytes in
    let counted = three _ _ _ _ _ _ _ c.in_ok-push_str-2.ensures.bytes c.in_ok-push_number.ensures end in
    three_alone _ _ _ _ _ _ _ c.in_ok-text.ensures.bytes c.in_ok-push_str.ensures.bytes c.in_ok-push_reports.ensures counted
