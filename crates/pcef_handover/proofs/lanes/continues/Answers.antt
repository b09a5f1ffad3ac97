use Rattle.std.proofs.Common.{rules, ◌≡◌, true, false, sym, arith}
use Rattle.pcef_handover.specs.Lanes.{is_next}
use Rattle.pcef_handover.proofs.Loops.{continued_end, continued_not, continued_step}
use Rattle.pcef_handover.proofs.lanes.continues.Goals as goal

pub returns-then-not-is_next : goal.returns-then-not-is_next
returns-then-not-is_next c =
    let no : is_next c.args.worker c.loop-item.rows c.loop-item.generation c.item-item.result.row ≡ false = search rules in
    sym (continued_not c.args.items.now c.loop-item.item-index c.item-item.result _ _ _ _ c.loop-item-test.true c.item-item.is no c.loop-item.invariant.goes_on)

pub loop-item-preserved : goal.loop-item-preserved
loop-item-preserved c =
    let yes : is_next c.args.worker c.loop-item.rows c.loop-item.generation c.item-item.result.row ≡ true = search rules in
    record {
      goes_on = continued_step c.args.items.now c.loop-item.item-index c.item-item.result _ _ _ _ c.loop-item-test.true c.item-item.is yes c.loop-item.invariant.goes_on;
      rows = omega (arith, c.loop-item.invariant.rows);
    }

pub returns : goal.returns
returns c = sym (continued_end c.args.items.now c.loop-item.item-index _ _ _ _ c.loop-item-test.false c.loop-item.invariant.goes_on)
