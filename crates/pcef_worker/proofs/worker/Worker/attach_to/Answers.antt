use Rattle.std.proofs.Common.{◌∙◌, List, All, subst, sym}
use Rattle.std.proofs.lemmas.List.Elements.{All-nil}
use Rattle.pcef_session.specs.declared.batch.Item.{Item}
use Rattle.pcef_lock.specs.Judging.{IsJudgedBySeen}
use Rattle.pcef_worker.proofs.Appending.{with_items_none}
use Rattle.pcef_worker.proofs.worker.Worker.attach_to.Goals as goal

pub invariant_of-result : goal.invariant_of-result
invariant_of-result g c =
    let J : Item → Type 0 = IsJudgedBySeen g.N.Naming.setting.catalog g.N.Naming.setting.ue g.N.Naming.first c.in-Ok-attach.seat.subscriber in (
      c.in-Ok-attach.ensures.seat.0 ∙ with_items_none _ c.args.rows.items c.requires,
      c.in-Ok-attach.ensures.seat.1,
      c.in-Ok-catalog.ensures,
      subst (λ (xs : List Item). All J xs) (sym c.in-Ok.ensures) (All-nil J),
      c.follow.ensures,
    )
