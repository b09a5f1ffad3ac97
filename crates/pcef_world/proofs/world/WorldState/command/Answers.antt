use Rattle.std.proofs.Common.{map}
use Rattle.std.specs.Option.{option_map}
use Rattle.pcef_world.specs.Workers.{seen}
use Rattle.pcef_world.proofs.WorldAnswers.{command_answer}
use Rattle.pcef_world.proofs.WorldSteps.{sound_command}
use Rattle.pcef_world.proofs.world.WorldState.command.Goals as goal

pub invariant_of-self : goal.invariant_of-self
invariant_of-self c = (
  (
      sound_command c.self.inside.session c.command.new.self c.self.inside.workers.items c.args.command c.command.result c.self.invariant.0 c.command.ensures.answer c.command.ensures.setting),
  λ is. absurd cc,
)

pub returns-clause-answer : goal.returns-clause-answer
returns-clause-answer c =
    rw (← c.self.view_is)
    (command_answer c.self.inside.session.setting c.args.command c.self.inside.session.journal c.command.new.self.journal (map (option_map seen) c.self.inside.workers.items) c.command.result c.command_step_answer.result
    c.command.ensures.answer c.command_step_answer.ensures.answer c.command_step_answer.ensures.lack).0

pub returns-clause-lacks : goal.returns-clause-lacks
returns-clause-lacks c =
    rw (← c.self.view_is)
    (command_answer c.self.inside.session.setting c.args.command c.self.inside.session.journal c.command.new.self.journal (map (option_map seen) c.self.inside.workers.items) c.command.result c.command_step_answer.result
    c.command.ensures.answer c.command_step_answer.ensures.answer c.command_step_answer.ensures.lack).1
