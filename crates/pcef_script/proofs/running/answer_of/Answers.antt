use Rattle.std.proofs.Common.{refl}
use Rattle.pcef_line.specs.declared.fault.LineFault.TheVariants.{LineTooLong}
use Rattle.pcef_script.specs.ScriptAnswers.{LineDue}
use Rattle.pcef_world.specs.Steps.{standing_of}
use Rattle.pcef_script.proofs.LineReads.{fault_answered}
use Rattle.pcef_script.proofs.running.answer_of.Goals as goal

pub returns-in-None-clause-answer : goal.returns-in-None-clause-answer
returns-in-None-clause-answer g c = λ whole kept.
    let world = c.args.world.now in
    fault_answered c.answer_too_long.result (LineDue whole) world.session.setting (standing_of world) LineTooLong (rw (← (c.in-None.ensures whole kept)) refl)
    (c.answer_too_long.ensures world.session.setting (standing_of world))
