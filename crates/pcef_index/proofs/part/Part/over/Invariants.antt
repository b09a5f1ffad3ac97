use Rattle.std.specs.Arc.{arc_value}
use Rattle.pcef_index.proofs.Parting.{PlacedTo}
use Rattle.pcef_index.proofs.part.Part.over.Given as goal

abbrev pub invariant-loop-place : goal.invariant-loop-place
invariant-loop-place l = PlacedTo l.place l.next (arc_value l.base).sources l.sources l.places.items l.rest.items
