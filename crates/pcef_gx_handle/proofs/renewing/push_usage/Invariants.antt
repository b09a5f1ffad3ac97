use Rattle.std.proofs.Common.{◌≡◌, ◌++◌, drop}
use Rattle.pcef_gx_handle.specs.private.Carrying.{states_left}
use Rattle.pcef_gx_handle.proofs.renewing.push_usage.Given as goal

-- the reports so far, and those of the rest, are those of all
abbrev pub invariant-loop-state : goal.invariant-loop-state
invariant-loop-state l = l.reports.items ++ states_left (drop l.state-index l.states) ≡ l.initial.reports.items ++ states_left l.states
