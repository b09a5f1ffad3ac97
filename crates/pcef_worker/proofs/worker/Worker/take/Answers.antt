use Rattle.std.proofs.Common.{rules, ℕ, ◌+◌, length, arith, ◌≡◌, List, All, refl, subst, sym}
use Rattle.std.proofs.lemmas.List.Elements.{All-push}
use Rattle.pcef_session.specs.declared.batch.Item.{Item}
use Rattle.pcef_lock.specs.Judging.{IsJudgedBySeen, IsTaken}
use Rattle.pcef_worker.proofs.worker.Worker.take.Goals as goal

pub invariant_of-self : goal.invariant_of-self
invariant_of-self g c =
    let J : Item → Type 0 = IsJudgedBySeen g.N.Naming.setting.catalog g.N.Naming.setting.ue g.N.Naming.first c.self.inside.seat.subscriber in
    let row = c.judge.ensures.taken in (
      c.self.invariant.0,
      c.self.invariant.1,
      c.self.invariant.2,
      subst (λ (xs : List Item). All J xs) (sym row.after) (All-push J c.self.inside.waiting row.item c.self.invariant.3 row.taken.judged),
      c.judge.ensures.follows,
    )

pub returns-clause-takes : goal.returns-clause-takes
returns-clause-takes g c =
    let row = c.judge.ensures.taken in
    let rows : c.len-2.result ≡ length c.self.inside.rows.items = search rules in
    let waiting : c.len-3.result ≡ length c.self.inside.waiting = search rules in
    let seq : c.len-2.result + c.len-3.result ≡ length c.self.inside.rows.items + length c.self.inside.waiting = omega (arith, rows, waiting) in
    rw (← c.self.view_is) (record {
      item = row.item;
      taken = subst (λ (n : ℕ). IsTaken g.N.Naming.setting g.N.Naming.first c.self.inside.seat.worker n c.self.inside.seat.subscriber c.args.header.now row.item) seq row.taken;
      after = rw row.after refl;
    })
