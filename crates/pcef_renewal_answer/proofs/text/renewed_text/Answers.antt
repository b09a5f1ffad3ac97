use Rattle.pcef_answer.proofs.WrittenTexts.{three, three_alone}
use Rattle.pcef_renewal_answer.proofs.text.renewed_text.Goals as goal

pub returns : goal.returns
returns c =
    let end = three _ _ _ _ _ _ _ c.in_ok-push_str-2.ensures.bytes c.in_ok-push_str-3.ensures.bytes c.in_ok-push_str-4.ensures.bytes in
    three_alone _ _ _ _ _ _ _ c.in_ok-text.ensures.bytes c.in_ok-push_str.ensures.bytes c.in_ok-push_pairs.ensures end
