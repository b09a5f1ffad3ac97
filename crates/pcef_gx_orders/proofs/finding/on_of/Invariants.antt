use Rattle.std.proofs.Common.{◌≡◌, ◌++◌, drop}
use Rattle.pcef_gx_orders.specs.Keeping.{on_of}
use Rattle.pcef_gx_orders.proofs.finding.on_of.Given as goal

-- the keys so far, and those of the rest, are those of all
abbrev pub invariant-loop-state : goal.invariant-loop-state
invariant-loop-state l = l.keys.items ++ on_of (drop l.state-index l.states) ≡ on_of l.states
