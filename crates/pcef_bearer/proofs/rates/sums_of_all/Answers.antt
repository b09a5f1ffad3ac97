use Rattle.std.proofs.Common.{arith}
use Rattle.pcef_bearer.proofs.Sums.{all_down, all_up, none_down, none_up}
use Rattle.pcef_bearer.proofs.rates.sums_of_all.Goals as goal

pub overflow_add-up : goal.overflow_add-up
overflow_add-up c =
    let on = all_up c.args.bound.now c.loop-b.b-index c.b-item.result c.loop-b.up c.sums_of-more.result.up (omega arith) c.b-item.is c.loop-b.invariant.up c.sums_of-more.ensures.up in
    omega (arith, on, c.requires.up)

pub overflow_add-down : goal.overflow_add-down
overflow_add-down c =
    let on = all_down c.args.bound.now c.loop-b.b-index c.b-item.result c.loop-b.down c.sums_of-more.result.down (omega arith) c.b-item.is c.loop-b.invariant.down c.sums_of-more.ensures.down in
    omega (arith, on, c.requires.down)

pub loop-b-preserved : goal.loop-b-preserved
loop-b-preserved c = record {
  up = all_up c.args.bound.now c.loop-b.b-index c.b-item.result c.loop-b.up c.sums_of-more.result.up (omega arith) c.b-item.is c.loop-b.invariant.up c.sums_of-more.ensures.up;
  down = all_down c.args.bound.now c.loop-b.b-index c.b-item.result c.loop-b.down c.sums_of-more.result.down (omega arith) c.b-item.is c.loop-b.invariant.down c.sums_of-more.ensures.down;
}

pub returns-clause-up : goal.returns-clause-up
returns-clause-up c = omega (arith, none_up c.args.bound.now c.loop-b.b-index (omega arith), c.loop-b.invariant.up)

pub returns-clause-down : goal.returns-clause-down
returns-clause-down c = omega (arith, none_down c.args.bound.now c.loop-b.b-index (omega arith), c.loop-b.invariant.down)
