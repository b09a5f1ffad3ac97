use Rattle.pcef_index.specs.private.Bases.{AreBelow}
use Rattle.pcef_index.proofs.based.all_places.Given as goal

abbrev pub invariant-loop-place : goal.invariant-loop-place
invariant-loop-place l = AreBelow l.place l.places.items
