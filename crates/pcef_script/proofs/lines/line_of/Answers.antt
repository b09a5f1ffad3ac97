use Rattle.std.proofs.Common.{inr, refl, subst}
use Rattle.std.specs.Prelude.{Err}
use Rattle.pcef_line.specs.LineOf.{LineOf}
use Rattle.pcef_line.specs.declared.fault.LineFault.TheVariants.{LineTooLong, NotUtf8}
use Rattle.pcef_script.proofs.LineReads.{other_due, text_due}
use Rattle.pcef_script.proofs.LineDues.{long_due, within_due}
use Rattle.pcef_script.proofs.lines.line_of.Goals as goal

pub returns-then-bytes-gt-MAX_LINE : goal.returns-then-bytes-gt-MAX_LINE
returns-then-bytes-gt-MAX_LINE c = (Err LineTooLong, long_due c.args.bytes.now c.if-bytes-gt-MAX_LINE.true, inr refl)

pub returns-in-Ok : goal.returns-in-Ok
returns-in-Ok c =
    let bytes = c.args.bytes.now in
    let text = c.in-Ok.ensures in
    let due = c.read.ensures.0 in
    (due, within_due bytes due c.if-bytes-gt-MAX_LINE.false (text_due bytes due text.1 (subst (λ b. LineOf b due) text.0 c.read.ensures.1)), c.read.ensures.2)

pub returns-in-Err : goal.returns-in-Err
returns-in-Err c =
    let bytes = c.args.bytes.now in
    (Err NotUtf8, within_due bytes (Err NotUtf8) c.if-bytes-gt-MAX_LINE.false (other_due bytes c.in-Err.ensures), inr refl)
