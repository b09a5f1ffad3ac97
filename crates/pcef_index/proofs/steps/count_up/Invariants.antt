use Rattle.std.proofs.Common.{◌≡◌, ◌+◌}
use Rattle.std.proofs.Common.{drop}
use Rattle.pcef_index.specs.private.Starts.{count_up}
use Rattle.pcef_index.proofs.steps.count_up.Given as goal

abbrev pub invariant-loop-place : goal.invariant-loop-place
invariant-loop-place l = count_up l.port l.ports ≡ l.place + count_up l.port (drop l.place l.ports)
