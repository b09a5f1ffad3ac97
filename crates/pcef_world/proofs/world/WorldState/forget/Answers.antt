use Rattle.pcef_world.proofs.Followed.{follows_alike}
use Rattle.pcef_world.proofs.WorldSteps.{sound_forgotten}
use Rattle.pcef_world.proofs.world.WorldState.forget.Goals as goal

pub invariant_of-self : goal.invariant_of-self
invariant_of-self c = (
  sound_forgotten c.self.inside.session c.forget.new.self c.self.inside.workers.items c.forget.ensures.setting c.forget.ensures.journal c.self.invariant.0,
  λ is. follows_alike c.self.inside.session c.forget.new.self c.self.inside.judged c.forget.ensures.setting c.forget.ensures.journal (c.self.invariant.1 is),
)
