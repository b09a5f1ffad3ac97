use Rattle.pcef_world.specs.Steps.{standing_of}
use Rattle.std.proofs.Common.{inl, refl}
use Rattle.std.proofs.lemmas.Result.{on_err_weaker}
use Rattle.pcef_script.proofs.LineReads.{fault_read, lacking, line_answered, line_lacks}
use Rattle.pcef_script.proofs.step.answer_text.Goals as goal

pub returns-in-Ok-clause-answer : goal.returns-in-Ok-clause-answer
returns-in-Ok-clause-answer g c =
    let world = c.args.world.now in
    line_answered c.do_step.result world.session.setting (standing_of world) (standing_of c.do_step.new.world) c.args.text.now c.in-Ok.line c.in-Ok.ensures c.do_step.ensures.text c.do_step.ensures.counts

pub returns-in-Err-clause-answer : goal.returns-in-Err-clause-answer
returns-in-Err-clause-answer g c =
    let world = c.args.world.now in
    fault_read c.read_fault.result world.session.setting (standing_of world) c.args.text.now c.in-Err.at_fault c.in-Err.ensures
    (c.read_fault.ensures world.session.setting (standing_of world))

pub returns-in-Ok-clause-lacks : goal.returns-in-Ok-clause-lacks
returns-in-Ok-clause-lacks g c =
    let world = c.args.world.now in
    on_err_weaker c.do_step.result
    (line_lacks world.session.setting (standing_of world) (standing_of c.do_step.new.world) c.args.text.now c.in-Ok.line c.in-Ok.ensures) c.do_step.ensures.lacks

pub returns-in-Err-clause-lacks : goal.returns-in-Err-clause-lacks
returns-in-Err-clause-lacks g c = lacking c.read_fault.result (inl refl)
