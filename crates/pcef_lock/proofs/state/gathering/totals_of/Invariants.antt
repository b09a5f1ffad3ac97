use Rattle.std.proofs.Common.{◌≡◌, map, take}
use Rattle.pcef_lock.specs.Gathering.{key_total}
use Rattle.pcef_lock.proofs.state.gathering.totals_of.Given as goal

abbrev pub invariant-loop-slot : goal.invariant-loop-slot
invariant-loop-slot l = l.totals ≡ map (λ s. key_total l.session.setting l.session.journal s.key) (take l.slot l.state-items)
