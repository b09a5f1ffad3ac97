use Rattle.std.proofs.Common.{sym, subst}
use Rattle.pcef_world.specs.Apart.{IsApart}
use Rattle.pcef_world.proofs.ApartWorkers.{sound_finished_apart}
use Rattle.pcef_world.proofs.world.WorldState.finish_apart.Goals as goal

pub invariant_of-self : goal.invariant_of-self
invariant_of-self c = (
  (
      sound_finished_apart c.self.inside.session c.finish.new.session c.self.inside.workers.items c.args.apart.now c.finish.result c.self.invariant.0
      (subst (λ w. IsApart w c.args.apart.now) (sym c.self.view_is) c.requires) c.finish.ensures.answer c.finish.ensures.setting),
  λ is. absurd cc,
)
