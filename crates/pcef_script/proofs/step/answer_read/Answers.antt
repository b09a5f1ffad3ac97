use Rattle.std.proofs.Common.{inl, refl}
use Rattle.std.proofs.lemmas.Result.{IfOk-weaker}
use Rattle.pcef_world.specs.Steps.{standing_of}
use Rattle.pcef_script.proofs.LineReads.{lacking, line_done}
use Rattle.pcef_script.proofs.step.answer_read.Goals as goal

pub returns-in-Ok-clause-answer : goal.returns-in-Ok-clause-answer
returns-in-Ok-clause-answer g c =
    let world = c.args.world.now in
    rw c.in-Ok.is (line_done c.do_step.result world.session.setting (standing_of world) (standing_of c.do_step.new.world) c.in-Ok.asked c.do_step.ensures.text c.do_step.ensures.counts)

pub returns-in-Err-clause-answer : goal.returns-in-Err-clause-answer
returns-in-Err-clause-answer g c =
    let world = c.args.world.now in
    rw c.in-Err.is (IfOk-weaker c.read_fault.result _ _ (λ a told. told.1) (c.read_fault.ensures world.session.setting (standing_of world)))

pub returns-in-Err-clause-lacks : goal.returns-in-Err-clause-lacks
returns-in-Err-clause-lacks g c = lacking c.read_fault.result (inl refl)
