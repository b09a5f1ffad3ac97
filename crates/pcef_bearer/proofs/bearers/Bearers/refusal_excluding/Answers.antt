use Rattle.std.proofs.Common.{arith, not}
use Rattle.pcef_bearer.specs.declared.bearers.Bound.{Bound}
use Rattle.pcef_bearer.specs.Bindings.{is_bound_as}
use Rattle.pcef_bearer.proofs.Sums.{part_down, part_up}
use Rattle.pcef_bearer.proofs.bearers.Bearers.refusal_excluding.Goals as goal

pub sums_excluding-others-requires-clause-up : goal.sums_excluding-others-requires-clause-up
sums_excluding-others-requires-clause-up c = rw c.deref-2.ensures.value (omega (arith, c.self.invariant.0.within_up, c.self.invariant.1))

pub sums_excluding-others-requires-clause-down : goal.sums_excluding-others-requires-clause-down
sums_excluding-others-requires-clause-down c = rw c.deref-2.ensures.value (omega (arith, c.self.invariant.0.within_down, c.self.invariant.2))

pub is_over-requires : goal.is_over-requires
is_over-requires c =
    rw (c.sums_excluding-others.ensures.up, c.deref-2.ensures.value)
    (omega (arith, part_up (λ (b : Bound). not (is_bound_as c.args.name.now b)) c.self.inside.bound.items, c.self.invariant.0.within_up))

pub is_over-requires-2 : goal.is_over-requires-2
is_over-requires-2 c =
    rw (c.sums_excluding-others.ensures.down, c.deref-2.ensures.value)
    (omega (arith, part_down (λ (b : Bound). not (is_bound_as c.args.name.now b)) c.self.inside.bound.items, c.self.invariant.0.within_down))
