use Rattle.std.proofs.Common.{◌∙◌, sym}
use Rattle.pcef_answer.proofs.WrittenTexts.{plain_more}
use Rattle.pcef_answer.proofs.written.is_plain.Goals as goal

pub loop-byte-preserved : goal.loop-byte-preserved
loop-byte-preserved c left =
    let same = c.as_bytes-byte-items.ensures.value in
    let plain = rw same at (sym c.is_special.ensures ∙ c.if-is_special.false) in
    c.loop-byte.invariant (plain_more c.args.name.now c.loop-byte.byte-index c.requires (rw same at c.loop-byte-test.true) plain left)
