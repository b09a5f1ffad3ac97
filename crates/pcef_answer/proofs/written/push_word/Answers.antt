use Rattle.std.proofs.Common.{◌∙◌, ◌++◌, ap, string_bytes, sym}
use Rattle.pcef_answer.proofs.WrittenTexts.{pushed_three}
use Rattle.pcef_answer.proofs.written.push_word.Goals as goal

pub returns : goal.returns
returns c =
    let word = c.in_ok-push_str-2.ensures.bytes ∙ ap (λ x. string_bytes c.push_str.new.self ++ x) (sym c.requires) in
    pushed_three c.push_str-3.result _ _ _ _ _ _ _ c.in_ok-push_str.ensures.bytes word c.push_str-3.ensures.bytes
