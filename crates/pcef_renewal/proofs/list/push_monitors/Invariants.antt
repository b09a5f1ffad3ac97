use Rattle.std.proofs.Common.{◌≡◌, ◌++◌, take}
use Rattle.pcef_renewal.specs.private.Again.{monitors_of}
use Rattle.pcef_renewal.proofs.list.push_monitors.Given as goal

abbrev pub invariant-loop-state : goal.invariant-loop-state
invariant-loop-state l = l.list.items ≡ l.initial.list.items ++ monitors_of (take l.state-index l.states)
