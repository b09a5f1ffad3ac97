use Rattle.std.proofs.Common.{sym, subst, refl}
use Rattle.pcef_world.specs.Apart.{IsApart}
use Rattle.pcef_world.proofs.ApartWorkers.{flushes_apart, sound_flushed_apart}
use Rattle.pcef_world.proofs.world.WorldState.flush_apart.Goals as goal

pub invariant_of-self : goal.invariant_of-self
invariant_of-self c = (
  (
      sound_flushed_apart c.self.inside.session c.flush-answer.new.session c.self.inside.workers.items c.args.apart.now c.flush-answer.result c.self.invariant.0
      (subst (λ w. IsApart w c.args.apart.now) (sym c.self.view_is) c.requires) c.flush-answer.ensures.answer c.flush-answer.ensures.setting),
  λ is. absurd cc,
)

pub returns : goal.returns
returns c =
    rw (← c.self.view_is)
    (flushes_apart c.self.inside.session c.flush-answer.new.session c.self.inside.workers.items c.args.apart.now _ c.flush-answer.result c.self.invariant.0.few_rows
    (subst (λ w. IsApart w c.args.apart.now) (sym c.self.view_is) c.requires) c.flush-answer.ensures.answer c.flush-answer.ensures.setting c.flush-answer.ensures.forgotten c.flush-answer.ensures.worker refl
    c.lane_len-handed_over.ensures)
