use Rattle.std.proofs.Common.{◌∙◌, arith}
use Rattle.std.proofs.lemmas.Result.{IfOk-weaker}
use Rattle.pcef_sessions.proofs.AskedTexts.{asked_other, asked_utf8}
use Rattle.pcef_sessions.proofs.asking.asked_of.Goals as goal

pub returns-in-Ok : goal.returns-in-Ok
returns-in-Ok c =
    IfOk-weaker c.asked_text.result _ _
    (λ a is. is ∙ asked_utf8 c.args.line.now c.in-Ok.text.now (omega (arith, c.if-line-gt-MAX_LINE.false)) c.in-Ok.ensures.cases.0 c.in-Ok.ensures.cases.1)
    c.asked_text.ensures

pub returns-in-Err : goal.returns-in-Err
returns-in-Err c = asked_other c.args.line.now (omega (arith, c.if-line-gt-MAX_LINE.false)) c.in-Err.ensures.cases.0
