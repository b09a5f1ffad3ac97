use Rattle.std.proofs.Common.{rules, ◌≡◌, ◌∙◌, List, subst, sym}
use Rattle.pcef_table.specs.Tables.{TableValue}
use Rattle.pcef_lock.specs.Judging.{FollowsLast}
use Rattle.pcef_lock.proofs.Judged.{all_judged_later}
use Rattle.pcef_worker.proofs.worker.Worker.meet.Goals as goal

pub invariant_of-self : goal.invariant_of-self
invariant_of-self g c =
    let same : c.meet.new.seat.subscriber ≡ c.self.inside.seat.subscriber = search rules in (
      c.meet.ensures.seat.1 ∙ c.self.invariant.0,
      c.meet.ensures.seat.2 ∙ c.self.invariant.1,
      c.self.invariant.2,
      all_judged_later g.N.Naming.setting g.N.Naming.first c.self.inside.seat.subscriber c.meet.new.seat.subscriber c.self.inside.waiting c.meet.ensures.grows c.self.invariant.3,
      subst (λ (ts : List TableValue). FollowsLast g.N.Naming.setting ts c.self.inside.flows) (sym same) c.self.invariant.4,
    )
