use Rattle.std.proofs.Common.{◌≡◌, List, sym, subst, ◌∙◌, ap}
use mathlib.Core.List.{IsPrefix}
use Rattle.pcef_publish.specs.declared.rule.Note.{Note}
use Rattle.pcef_table.specs.Tables.{TableValue}
use Rattle.pcef_publish.specs.private.Chains.{head_of, items_of}
use Rattle.pcef_publish.proofs.Runs.{prefix_trans}
use Rattle.pcef_publish.proofs.Steps.{checks_moves, items_begin}
use Rattle.pcef_publish.proofs.front.Author.compare.Goals as goal

pub compare_exchange-requires : goal.compare_exchange-requires
compare_exchange-requires g c =
    let h = c.self.invariant.0 in
    let offer = c.plain-offer.ensures in
    let book = c.learn.ensures.0 ∙ (ap (λ s. s.book) c.again-both.ensures ∙ c.self.invariant.1) in (
      ap (λ w. w.tracked) h,
      book ∙ sym (ap (λ w. w.book) h),
      c.self.invariant.2 ∙ sym (ap (λ w. w.book) h),
      offer.0,
      rw (ap (λ w. w.key) h, offer.3) (checks_moves c.learn.new.self.log c.plain-offer.result.ask
          c.self.inside.pen.nib c.self.invariant.3 (sym (ap (λ a. a.by) offer.1))),
    )

pub returns-clause-begins : goal.returns-clause-begins
returns-clause-begins g c =
    let root = g.N.Naming.root in
    let v = c.self.inside.seen.log in
    let f = c.front.inside.seen.log in
    let both = c.learn.new.self.log in
    let w = c.compare_exchange.new.seen.log in
    let ask = c.plain-offer.result.ask in
    let e = ap (λ a. a.root) c.plain-offer.ensures.1 in
    let by = ap (λ a. a.by) c.plain-offer.ensures.1 in
    let this : IsPrefix v both = subst (λ (l : List Note). IsPrefix l both)
    (ap (λ s. s.log) c.again-both.ensures) c.learn.ensures.2 in
    let h : head_of ask.root v ≡ ask.by = ap (λ r. head_of r v) e ∙ (sym c.self.invariant.4 ∙ sym by) in
    let tells : items_of ask.root w ≡ items_of ask.root v = c.compare_exchange.ensures.7.1 v this h in
    let all : items_of root w ≡ items_of root v = sym (ap (λ r. items_of r w) e)
    ∙ (tells ∙ ap (λ r. items_of r v) e) in
    let long : IsPrefix (items_of root f) (items_of root w) =
    items_begin root f w (prefix_trans f both w c.learn.ensures.3 c.compare_exchange.ensures.6)
    in
    rw (← c.front.view_is, ← c.self.view_is) (subst
    (λ (xs : List TableValue). IsPrefix (items_of root f) xs) all long)
