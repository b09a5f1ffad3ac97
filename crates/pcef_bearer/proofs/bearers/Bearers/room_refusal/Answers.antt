use Rattle.std.proofs.Common.{arith}
use Rattle.pcef_bearer.proofs.bearers.Bearers.room_refusal.Goals as goal

pub sums_excluding-rest-requires-clause-up : goal.sums_excluding-rest-requires-clause-up
sums_excluding-rest-requires-clause-up c = rw c.deref.ensures.value (omega (arith, c.self.invariant.0.within_up, c.self.invariant.1))

pub sums_excluding-rest-requires-clause-down : goal.sums_excluding-rest-requires-clause-down
sums_excluding-rest-requires-clause-down c = rw c.deref.ensures.value (omega (arith, c.self.invariant.0.within_down, c.self.invariant.2))
