use Rattle.std.proofs.Common.{◌≡◌, take, false}
use Rattle.pcef_usage.specs.Keys.{has_slot}
use Rattle.pcef_usage.proofs.usage.Usage.find.Given as goal

abbrev pub invariant-loop-place : goal.invariant-loop-place
invariant-loop-place l = has_slot l.key (take l.place l.state-items) ≡ false
