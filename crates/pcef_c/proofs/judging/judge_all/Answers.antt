use Rattle.std.proofs.Common.{◌∙◌, arith}
use Rattle.pcef_c.proofs.Judged.{judged_more}
use Rattle.pcef_c.proofs.judging.judge_all.Goals as goal

pub loop-place-preserved : goal.loop-place-preserved
loop-place-preserved c =
    let h = c.loop-place.invariant in let inside = c.loop-place-test.true in (
      c.verdict_on.ensures.handle ∙ h.0,
      judged_more c.args.handle.now c.loop-place.handle c.args.packets.now c.args.verdicts.now c.loop-place.verdicts c.ask_ahead.new.verdicts c.loop-place.place c.min-count.result _ c.verdict_on.result (search arith) (search arith) (search arith)
          c.ask_ahead.ensures h.0 c.verdict_on.ensures.verdict h.1,
    )

pub returns-clause-judged : goal.returns-clause-judged
returns-clause-judged c =
    let h = c.loop-place.invariant.1 in let past = c.loop-place-test.false in
    record {
      number_is = c.min-count.ensures;
      length_is = h.0;
      each = λ n packet v less. h.1 n packet v (omega (arith, less, past));
      others = λ n v above. h.2 n v above;
    }
