use Rattle.std.proofs.Common.{arith, not}
use Rattle.pcef_bearer.specs.declared.bearers.Bound.{Bound}
use Rattle.pcef_bearer.specs.Bindings.{is_bound_as}
use Rattle.pcef_bearer.proofs.Sums.{on_down, on_up, part_down, part_up, past_down, past_up}
use Rattle.pcef_bearer.proofs.rates.sums_excluding.Goals as goal

pub overflow_add-up : goal.overflow_add-up
overflow_add-up c =
    let on = on_up (λ (b : Bound). not (is_bound_as c.args.name.now b)) c.args.bound.now c.loop-b.b-index c.b-item.result c.loop-b.up c.sums_if-more.result.up
    (omega arith) c.b-item.is c.loop-b.invariant.up (rw c.is_named.ensures at c.sums_if-more.ensures.up) in
    omega (arith, on, part_up (λ (b : Bound). not (is_bound_as c.args.name.now b)) c.args.bound.now, c.requires.up)

pub overflow_add-down : goal.overflow_add-down
overflow_add-down c =
    let on = on_down (λ (b : Bound). not (is_bound_as c.args.name.now b)) c.args.bound.now c.loop-b.b-index c.b-item.result c.loop-b.down c.sums_if-more.result.down
    (omega arith) c.b-item.is c.loop-b.invariant.down (rw c.is_named.ensures at c.sums_if-more.ensures.down) in
    omega (arith, on, part_down (λ (b : Bound). not (is_bound_as c.args.name.now b)) c.args.bound.now, c.requires.down)

pub loop-b-preserved : goal.loop-b-preserved
loop-b-preserved c = record {
  up = on_up (λ (b : Bound). not (is_bound_as c.args.name.now b)) c.args.bound.now c.loop-b.b-index c.b-item.result c.loop-b.up c.sums_if-more.result.up
      (omega arith) c.b-item.is c.loop-b.invariant.up (rw c.is_named.ensures at c.sums_if-more.ensures.up);
  down = on_down (λ (b : Bound). not (is_bound_as c.args.name.now b)) c.args.bound.now c.loop-b.b-index c.b-item.result c.loop-b.down c.sums_if-more.result.down
      (omega arith) c.b-item.is c.loop-b.invariant.down (rw c.is_named.ensures at c.sums_if-more.ensures.down);
}

pub returns-clause-up : goal.returns-clause-up
returns-clause-up c = omega (arith, past_up (λ (b : Bound). not (is_bound_as c.args.name.now b)) c.args.bound.now c.loop-b.b-index (omega arith), c.loop-b.invariant.up)

pub returns-clause-down : goal.returns-clause-down
returns-clause-down c = omega (arith, past_down (λ (b : Bound). not (is_bound_as c.args.name.now b)) c.args.bound.now c.loop-b.b-index (omega arith), c.loop-b.invariant.down)
