use Rattle.std.proofs.Common.{◌≡◌, ◌+◌, filter, length, nat_lt, take}
use Rattle.pcef_model.specs.Bearers.{default_id}
use Rattle.pcef_renewal.specs.private.Again.{numbers}
use Rattle.pcef_renewal.proofs.places.beyond.Given as goal

abbrev pub invariant-loop-bearer : goal.invariant-loop-bearer
invariant-loop-bearer l =
    numbers l.beyond.items ≡ filter (λ id. nat_lt (default_id + length l.used) id) (numbers (take l.bearer-index l.used))
