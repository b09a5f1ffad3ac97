use Rattle.pcef_world.proofs.WorldAnswers.{attach_answer}
use Rattle.pcef_world.proofs.world.WorldState.attach.Goals as goal

pub returns-clause-answer : goal.returns-clause-answer
returns-clause-answer c = rw c.attach_step_answer.ensures (attach_answer c.args.self.now.session.setting c.args.self.now c.attach_worker.new.self c.attach_worker.result c.attach_worker.ensures.answer c.attach_worker.ensures.workers).0

pub returns-clause-lacks : goal.returns-clause-lacks
returns-clause-lacks c = rw c.attach_step_answer.ensures (attach_answer c.args.self.now.session.setting c.args.self.now c.attach_worker.new.self c.attach_worker.result c.attach_worker.ensures.answer c.attach_worker.ensures.workers).1
