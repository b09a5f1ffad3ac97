use Rattle.std.proofs.Common.{rules, ◌≡◌, ◌∙◌}
use Rattle.pcef_lock.proofs.Judged.{all_judged_later}
use Rattle.pcef_worker.proofs.worker.Worker.refresh.Goals as goal

pub invariant_of-self : goal.invariant_of-self
invariant_of-self g c =
    let shares : c.refresh.new.self.shares ≡ c.self.inside.seat.shares = search rules in
    let ue : c.refresh.new.self.ue ≡ c.self.inside.seat.ue = search rules in (
      shares ∙ c.self.invariant.0,
      ue ∙ c.self.invariant.1,
      c.self.invariant.2,
      all_judged_later g.N.Naming.setting g.N.Naming.first c.self.inside.seat.subscriber c.refresh.new.self.subscriber c.self.inside.waiting c.refresh.ensures.grows c.self.invariant.3,
      c.refresh.ensures.follows,
    )

pub returns-clause-number : goal.returns-clause-number
returns-clause-number g c = c.refresh.ensures.number
