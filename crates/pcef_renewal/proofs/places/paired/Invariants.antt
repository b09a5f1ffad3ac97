use Rattle.std.proofs.Common.{◌≡◌, ◌++◌, drop}
use Rattle.pcef_model.specs.Bearers.{other_ids}
use Rattle.pcef_renewal.specs.private.Again.{numbers, paired}
use Rattle.pcef_renewal.proofs.places.paired.Given as goal

abbrev pub invariant-loop-place : goal.invariant-loop-place
invariant-loop-place l = l.pairs.items ++ paired (drop l.place (numbers l.others)) (drop l.place other_ids) ≡ paired (numbers l.others) other_ids
