use Rattle.pcef_world.proofs.WorldSteps.{all_in_turn}
use Rattle.pcef_world.proofs.world.WorldState.session.Goals as goal

pub returns-clause-in_turn : goal.returns-clause-in_turn
returns-clause-in_turn c =
    rw (← c.self.view_is) (all_in_turn c.self.inside.session.setting c.self.inside.session.journal c.self.inside.workers.items c.self.invariant.0.wait)
