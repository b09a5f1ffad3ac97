use Rattle.std.proofs.Common.{arith}
use Rattle.pcef_bearer.proofs.bearers.Bearers.guaranteed.Goals as goal

pub sums_on-requires-clause-up : goal.sums_on-requires-clause-up
sums_on-requires-clause-up c = rw c.deref-then-is_present.ensures.value (omega (arith, c.self.invariant.0.within_up, c.self.invariant.1))

pub sums_on-requires-clause-down : goal.sums_on-requires-clause-down
sums_on-requires-clause-down c = rw c.deref-then-is_present.ensures.value (omega (arith, c.self.invariant.0.within_down, c.self.invariant.2))
