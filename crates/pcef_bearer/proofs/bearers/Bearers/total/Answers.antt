use Rattle.std.proofs.Common.{arith}
use Rattle.pcef_bearer.proofs.bearers.Bearers.total.Goals as goal

pub sums_of_all-requires-clause-up : goal.sums_of_all-requires-clause-up
sums_of_all-requires-clause-up c = rw c.deref.ensures.value (omega (arith, c.self.invariant.0.within_up, c.self.invariant.1))

pub sums_of_all-requires-clause-down : goal.sums_of_all-requires-clause-down
sums_of_all-requires-clause-down c = rw c.deref.ensures.value (omega (arith, c.self.invariant.0.within_down, c.self.invariant.2))
