use Rattle.std.proofs.Common.{◌≡◌, ◌≤◌, length, take}
use Rattle.pcef_renewal.specs.private.Again.{monitors_of}
use Rattle.pcef_renewal.proofs.renewing.count_on.Given as goal

abbrev pub invariant-loop-state : goal.invariant-loop-state
invariant-loop-state l = (l.count ≡ length (monitors_of (take l.state-index l.states))) × (l.count ≤ l.state-index)
