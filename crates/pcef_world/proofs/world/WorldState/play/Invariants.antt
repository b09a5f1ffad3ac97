use Rattle.std.proofs.Common.{◌≡◌, ◌++◌}
use Rattle.pcef_world.specs.Steps.{Played, standing_of}
use Rattle.pcef_world.proofs.world.WorldState.play.Given as goal

abbrev pub invariant-loop-step : goal.invariant-loop-step
invariant-loop-step g l = record {
  setting : l.self.session.setting ≡ l.fn.self.session.setting;
  forgotten : l.self.session.forgotten ≡ l.fn.self.session.forgotten;
  rest : l.fn.steps.items ≡ l.yielded ++ l.step-iterator.rest.items;
  played : Played l.fn.self.session.setting (standing_of l.fn.self) l.yielded l.answers.items (standing_of l.self);
}
