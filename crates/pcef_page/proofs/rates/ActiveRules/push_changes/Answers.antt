use Rattle.std.proofs.Common.{◌≡◌, ◌++◌, subst, take, arith}
use Rattle.std.specs.List.{flat_map}
use Rattle.pcef_page.specs.Guarantees.{bearers, rate_change}
use Rattle.pcef_page.proofs.RuleLists.{flat_next}
use Rattle.pcef_page.proofs.rates.ActiveRules.push_changes.Goals as goal

pub loop-place-preserved : goal.loop-place-preserved
loop-place-preserved c = λ rules due.
    flat_next (rate_change c.args.generation rules c.args.self.now) c.loop-place.rates.items c.args.rates.now.items c.push_change.new.rates.items bearers c.loop-place.place
    c.loop-place-test.true (c.loop-place.invariant rules due) (c.in_ok-push_change.ensures rules (due c.loop-place.place c.loop-place-test.true))

pub returns : goal.returns
returns c = λ rules due.
    let all : c.loop-place.place ≡ 11 = omega (arith, c.loop-place-test.false, c.loop-place.auto.place-end) in
    subst (λ n. c.loop-place.rates.items ≡ c.args.rates.now.items ++ flat_map (rate_change c.args.generation rules c.args.self.now) (take n bearers)) all
    (c.loop-place.invariant rules due)
