use Rattle.std.proofs.Common.{take}
use Rattle.pcef_index.specs.private.Bases.{AreCopies}
use Rattle.pcef_index.proofs.parts.copies_at.Given as goal

abbrev pub invariant-loop-place : goal.invariant-loop-place
invariant-loop-place l = AreCopies l.sources (take l.place-index l.places) l.copies.items
