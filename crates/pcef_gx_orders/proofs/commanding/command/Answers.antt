use Rattle.pcef_gx_orders.proofs.Commands.{step_answers}
use Rattle.pcef_gx_orders.proofs.commanding.command.Goals as goal

pub returns-clause-answer : goal.returns-clause-answer
returns-clause-answer g c =
    rw c.command_answer.ensures (step_answers c.args.world.now c.step.new.self c.args.asked c.step.result c.step.ensures.answer c.step.ensures.lacks).0

pub returns-clause-workers : goal.returns-clause-workers
returns-clause-workers g c =
    (step_answers c.args.world.now c.step.new.self c.args.asked c.step.result c.step.ensures.answer c.step.ensures.lacks).1
