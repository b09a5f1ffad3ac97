use Rattle.std.proofs.Common.{inl, refl}
use Rattle.std.proofs.lemmas.Result.{on_err_weaker}
use Rattle.pcef_line.specs.declared.fault.LineFault.TheVariants.{LineTooLong}
use Rattle.pcef_script.specs.ScriptAnswers.{DueWithin, LineDue}
use Rattle.std.specs.Prelude.{Some}
use Rattle.pcef_world.specs.Steps.{standing_of}
use Rattle.pcef_script.proofs.LineReads.{due_answered, due_lacks, fault_answered, lacking}
use Rattle.pcef_script.proofs.lone_line.answer_of.Goals as goal

pub returns-in-None-clause-answer : goal.returns-in-None-clause-answer
returns-in-None-clause-answer g c =
    let world = c.args.world.now in
    fault_answered c.answer_too_long.result (LineDue c.args.line.now) world.session.setting (standing_of world) LineTooLong (rw (← c.in-None.ensures) refl)
    (c.answer_too_long.ensures world.session.setting (standing_of world))

pub returns-in-Some-clause-answer : goal.returns-in-Some-clause-answer
returns-in-Some-clause-answer g c =
    let world = c.args.world.now in
    due_answered c.answer_line.result (DueWithin (Some c.in-Some.bytes.now)) (LineDue c.args.line.now) world.session.setting (standing_of world) (standing_of c.answer_line.new.world)
    (λ due is. rw (← c.in-Some.ensures) is) c.answer_line.ensures.answer

pub returns-in-None-clause-lacks : goal.returns-in-None-clause-lacks
returns-in-None-clause-lacks g c = lacking c.answer_too_long.result (inl refl)

pub returns-in-Some-clause-lacks : goal.returns-in-Some-clause-lacks
returns-in-Some-clause-lacks g c =
    let world = c.args.world.now in
    on_err_weaker c.answer_line.result
    (due_lacks (DueWithin (Some c.in-Some.bytes.now)) (LineDue c.args.line.now) world.session.setting (standing_of world) (standing_of c.answer_line.new.world)
    (λ due is. rw (← c.in-Some.ensures) is))
    c.answer_line.ensures.lacks
