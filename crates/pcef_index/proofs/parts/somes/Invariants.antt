use Rattle.std.proofs.Common.{◌≡◌, Some, map, take}
use Rattle.pcef_index.proofs.parts.somes.Given as goal

abbrev pub invariant-loop-place : goal.invariant-loop-place
invariant-loop-place l = record { done : l.all.items ≡ map (λ k. Some k) (take l.place-index l.places) }
