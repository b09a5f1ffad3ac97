use Rattle.std.proofs.Common.{sym, subst, ◌∙◌}
use Rattle.pcef_world.specs.Apart.{IsApart}
use Rattle.pcef_world.proofs.ApartWorkers.{abandoned_apart, sound_abandoned_apart}
use Rattle.pcef_world.proofs.world.WorldState.abandon_apart.Goals as goal

pub invariant_of-self : goal.invariant_of-self
invariant_of-self c = (
  (
      let apart = subst (λ w. IsApart w c.args.apart.now) (sym c.self.view_is) c.requires in
      sound_abandoned_apart c.self.inside.session c.abandon.new.self c.self.inside.workers.items c.args.apart.now c.self.invariant.0 apart
      (c.abandon.ensures.journal ∙ abandoned_apart c.self.inside.session.journal c.args.apart.now.worker.number apart.waits.attached) c.abandon.ensures.setting),
  λ is. absurd cc,
)
