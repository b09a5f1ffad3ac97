use Rattle.std.proofs.Common.{◌≡◌, ◌∙◌, arith, subst, sym}
use Rattle.pcef_c.specs.Taking.{TakesAll}
use Rattle.pcef_c.proofs.Taken.{end_all, end_here, go_on, past_lesser}
use Rattle.pcef_c.proofs.taking.take_all.Goals as goal

pub returns-then-ends_taking : goal.returns-then-ends_taking
returns-then-ends_taking c =
    let so_far = c.loop-place.invariant in let inside = c.loop-place-test.true in
    end_here c.args.packets.now c.args.verdicts.now c.loop-place.verdicts c.args.worker.now c.loop-place.worker c.take_one-verdict.new.worker c.loop-place.place _ c.take_one-verdict.result (search arith) (search arith)
    c.take_one-verdict.ensures (sym c.ends_taking.ensures ∙ c.if-ends_taking.true) so_far

pub loop-place-preserved : goal.loop-place-preserved
loop-place-preserved c =
    let so_far = c.loop-place.invariant in let inside = c.loop-place-test.true in
    go_on c.args.packets.now c.args.verdicts.now c.loop-place.verdicts c.args.worker.now c.loop-place.worker c.take_one-verdict.new.worker c.loop-place.place _ c.take_one-verdict.result (search arith) (search arith)
    c.take_one-verdict.ensures (sym c.ends_taking.ensures ∙ c.if-ends_taking.false) so_far

pub returns : goal.returns
returns c =
    let so_far = c.loop-place.invariant in let past = c.loop-place-test.false in
    let same : c.loop-place.place ≡ c.min-count.result = omega (arith, past, c.loop-place.auto.place-end) in
    subst (λ n. TakesAll c.args.packets.now c.args.verdicts.now c.args.worker.now n c.loop-place.verdicts c.loop-place.worker) same
    (end_all c.args.packets.now c.args.verdicts.now c.loop-place.verdicts c.args.worker.now c.loop-place.worker c.loop-place.place (past_lesser _ _ c.loop-place.place (same ∙ c.min-count.ensures)) so_far)
