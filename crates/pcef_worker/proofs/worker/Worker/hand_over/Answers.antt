use Rattle.std.proofs.Common.{rules, ◌≡◌, ◌∙◌, ◌++◌, List, All, ap, subst, sym}
use Rattle.std.proofs.lemmas.List.Elements.{All-nil}
use Rattle.pcef_session.specs.declared.batch.Item.{Item}
use Rattle.pcef_share.specs.Amounts.{zeros}
use Rattle.pcef_handover.specs.Counting.{with_items}
use Rattle.pcef_table.specs.Tables.{TableValue}
use Rattle.pcef_lock.specs.Judging.{AllJudged, FollowsLast, IsJudgedBySeen}
use Rattle.pcef_worker.proofs.Appending.{with_items_append}
use Rattle.pcef_worker.proofs.worker.Worker.hand_over.Goals as goal

pub flush-requires : goal.flush-requires
flush-requires g c = c.self.invariant.3

pub invariant_of-self-2 : goal.invariant_of-self-2
invariant_of-self-2 g c =
    let J : Item → Type 0 = IsJudgedBySeen g.N.Naming.setting.catalog g.N.Naming.setting.ue g.N.Naming.first c.flush.new.seat.subscriber in
    let handed : c.flush.new.seat.shares ≡ with_items c.self.inside.seat.shares c.self.inside.waiting = search rules in
    let shares : c.flush.new.seat.shares ≡ with_items zeros c.keep_all.new.rows.items =
    handed ∙ ap (λ t. with_items t c.self.inside.waiting) c.self.invariant.0 ∙ sym (with_items_append zeros c.self.inside.rows.items c.self.inside.waiting)
    ∙ sym (ap (with_items zeros) (c.keep_all.ensures.items ∙ ap (λ (xs : List Item). xs ++ c.items.result.now) c.reserve.ensures.items ∙ ap (λ (xs : List Item). c.self.inside.rows.items ++ xs) c.items.ensures.items)) in (
      shares,
      c.flush.ensures.seat.2 ∙ c.self.invariant.1,
      c.self.invariant.2,
      subst (λ (xs : List Item). All J xs) (sym c.clear.ensures) (All-nil J),
      subst (λ (ts : List TableValue). FollowsLast g.N.Naming.setting ts c.self.inside.flows) (sym c.flush.ensures.seat.1) c.self.invariant.4,
    )

pub invariant_of-self-in-Err : goal.invariant_of-self-in-Err
invariant_of-self-in-Err g c =
    let p = g.N.Naming.setting in
    let shares : c.flush.new.seat.shares ≡ c.self.inside.seat.shares = search rules in (
      shares ∙ c.self.invariant.0 ∙ ap (with_items zeros) (sym c.reserve.ensures.items),
      c.flush.ensures.seat.2 ∙ c.self.invariant.1,
      c.self.invariant.2,
      subst (λ (ts : List TableValue). AllJudged p g.N.Naming.first ts c.self.inside.waiting) (sym c.flush.ensures.seat.1) c.self.invariant.3,
      subst (λ (ts : List TableValue). FollowsLast p ts c.self.inside.flows) (sym c.flush.ensures.seat.1) c.self.invariant.4,
    )
