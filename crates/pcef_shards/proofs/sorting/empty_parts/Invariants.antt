use Rattle.std.specs.Prelude.{◌≡◌, [], All, length}
use Rattle.pcef_shards.proofs.sorting.empty_parts.Given as goal

abbrev pub invariant-loop : goal.invariant-loop
invariant-loop l = (length l.parts.items ≡ l.counter) × All (λ part. part ≡ []) l.parts.items
