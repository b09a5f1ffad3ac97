use Rattle.std.proofs.Common.{◌≡◌, filter, take}
use Rattle.pcef_renewal.specs.private.Again.{is_used, numbers}
use Rattle.pcef_renewal.proofs.places.used.Given as goal

abbrev pub invariant-loop-bearer : goal.invariant-loop-bearer
invariant-loop-bearer l = numbers l.used.items ≡ filter (is_used l.bound) (numbers (take l.bearer-index l.bearers))
