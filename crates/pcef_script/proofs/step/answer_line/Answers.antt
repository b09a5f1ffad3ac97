use Rattle.std.proofs.Common.{inl, refl, subst}
use Rattle.std.proofs.lemmas.Result.{on_err_weaker}
use Rattle.std.specs.Prelude.{Some}
use Rattle.pcef_line.specs.LineOf.{LineOf}
use Rattle.pcef_line.specs.declared.fault.LineFault.TheVariants.{NotUtf8}
use Rattle.pcef_script.specs.ScriptAnswers.{DueWithin}
use Rattle.pcef_world.specs.Steps.{standing_of}
use Rattle.pcef_script.proofs.LineReads.{due_answered, due_lacks, fault_answered, lacking, other_due, text_due}
use Rattle.pcef_script.proofs.step.answer_line.Goals as goal

pub returns-in-Ok-clause-answer : goal.returns-in-Ok-clause-answer
returns-in-Ok-clause-answer g c =
    let text = c.in-Ok.ensures in
    let world = c.args.world.now in
    due_answered c.answer_text.result (LineOf c.in-Ok.text.now) (DueWithin (Some c.args.line.now)) world.session.setting (standing_of world) (standing_of c.answer_text.new.world)
    (λ due read. text_due c.args.line.now due text.1 (subst (λ bytes. LineOf bytes due) text.0 read)) c.answer_text.ensures.answer

pub returns-in-Err-clause-answer : goal.returns-in-Err-clause-answer
returns-in-Err-clause-answer g c =
    let world = c.args.world.now in
    fault_answered c.fault.result (DueWithin (Some c.args.line.now)) world.session.setting (standing_of world) NotUtf8 (other_due c.args.line.now c.in-Err.ensures)
    (c.fault.ensures world.session.setting (standing_of world))

pub returns-in-Ok-clause-lacks : goal.returns-in-Ok-clause-lacks
returns-in-Ok-clause-lacks g c =
    let text = c.in-Ok.ensures in
    let world = c.args.world.now in
    on_err_weaker c.answer_text.result
    (due_lacks (LineOf c.in-Ok.text.now) (DueWithin (Some c.args.line.now)) world.session.setting (standing_of world) (standing_of c.answer_text.new.world)
    (λ due read. text_due c.args.line.now due text.1 (subst (λ bytes. LineOf bytes due) text.0 read)))
    c.answer_text.ensures.lacks

pub returns-in-Err-clause-lacks : goal.returns-in-Err-clause-lacks
returns-in-Err-clause-lacks g c = lacking c.fault.result (inl refl)
