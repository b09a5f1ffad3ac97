use Rattle.std.proofs.Common.{◌≡◌, ◌++◌, drop}
use Rattle.pcef_renewal.specs.Renewal.{placed}
use Rattle.pcef_renewal.specs.private.Again.{is_used, numbers}
use Rattle.pcef_renewal.proofs.places.placed.Given as goal

abbrev pub invariant-loop-bearer : goal.invariant-loop-bearer
invariant-loop-bearer l =
    numbers l.placed.items ++ placed (is_used l.bound) (drop l.bearer-index (numbers l.numbered)) (drop l.next (numbers l.beyond))
    ≡ placed (is_used l.bound) (numbers l.numbered) (numbers l.beyond)
