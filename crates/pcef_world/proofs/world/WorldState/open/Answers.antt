use Rattle.pcef_world.proofs.WorldSteps.{sound_new}
use Rattle.pcef_world.proofs.world.WorldState.open.Goals as goal

pub invariant_of-result : goal.invariant_of-result
invariant_of-result c = (
  (
      sound_new c.in_ok-session.session c.new.result.items c.in_ok-session.ensures.made.1 c.new.ensures.items c.in_ok-session.ensures.few_rows),
  λ is. absurd cc,
)
