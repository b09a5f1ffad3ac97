use Rattle.std.proofs.Common.{rules, ◌≡◌, ◌+◌, ◌++◌, ◌∷◌, [], List, length, sym, ◌∙◌, ap, arith, subst}
use Rattle.std.proofs.lemmas.List.{length_push}
use Rattle.logbook.specs.Pages.{may_write}
use Rattle.pcef_table.specs.Tables.{TableValue}
use Rattle.pcef_publish.specs.private.Chains.{head_of, items_of}
use Rattle.pcef_publish.specs.Lists.{IsRun}
use Rattle.pcef_publish.proofs.Runs.{run_snoc}
use Rattle.pcef_publish.proofs.Steps.{adds_moves}
use Rattle.pcef_publish.proofs.front.Author.add.Goals as goal

pub compare_exchange-requires : goal.compare_exchange-requires
compare_exchange-requires g c =
    let h = c.self.invariant.0 in
    let offer = c.plain-offer.ensures in
    let ask = offer.1 in (
      ap (λ w. w.tracked) h,
      c.self.invariant.1 ∙ sym (ap (λ w. w.book) h),
      c.self.invariant.2 ∙ sym (ap (λ w. w.book) h),
      offer.0,
      rw (ap (λ w. w.key) h, offer.3) (adds_moves c.self.inside.seen.log c.plain-offer.result.ask
          c.self.inside.pen.nib c.self.invariant.3 (sym (ap (λ a. a.by) ask))
          (ap (λ a. a.by) ask ∙ (c.self.invariant.4
          ∙ sym (ap (λ a. head_of a.root c.self.inside.seen.log) ask)))),
    )

pub invariant_of-self : goal.invariant_of-self
invariant_of-self g c =
    let root = g.N.Naming.root in
    let offer = c.plain-offer.ensures.1 in
    let w = c.compare_exchange.new.seen.log in
    let v = c.self.inside.seen.log in
    let t = c.args.table.now in
    let items : items_of root w ≡ items_of root v ++ t ∷ [] = rw offer at c.compare_exchange.ensures.7.0 in
    let head : head_of root w ≡ c.draw-next.result.nib.key = rw offer at c.compare_exchange.ensures.7.1 in
    let book : c.compare_exchange.new.seen.book ≡ g.N.Naming.book = search rules in
    let next : c.draw-next.result.book ≡ g.N.Naming.book = search rules in
    let right : c.draw-next.result.nib.right ≡ may_write = search rules in
    let number : t.number ≡ g.N.Naming.first + length (items_of root v) = c.requires.number
    ∙ ap (λ (xs : List TableValue). g.N.Naming.first + length xs) (sym c.self.view_is) in
    let run : IsRun g.N.Naming.setting.catalog g.N.Naming.first (items_of root w) =
    subst (IsRun g.N.Naming.setting.catalog g.N.Naming.first) (sym items)
    (run_snoc g.N.Naming.setting.catalog g.N.Naming.first (items_of root v) t c.self.invariant.6
    number c.requires.table) in (
      c.self.invariant.0,
      book,
      next,
      right,
      sym head,
      omega
          (arith, c.self.invariant.5, ap length items, length_push (items_of root v) t),
      run,
    )
