use Rattle.std.proofs.Common.{arith}
use Rattle.pcef_c.proofs.Judged.{asked_more}
use Rattle.pcef_c.proofs.judging.ask_for.Goals as goal

pub loop-place-preserved : goal.loop-place-preserved
loop-place-preserved c =
    let inside = c.loop-place-test.true in
    asked_more c.args.verdicts.now c.loop-place.verdicts c.args.from c.args.end c.loop-place.place c.unjudged.result (search arith) (search arith) c.loop-place.invariant
