use Rattle.std.specs.Prelude.{◌≡◌, [], All, vec_len}
use Rattle.pcef_gateway.proofs.context.RunContext.start_all.Given as goal

abbrev pub invariant-loop-number : goal.invariant-loop-number
invariant-loop-number g l = (vec_len l.rings ≡ l.number) × All (λ ring. ring ≡ []) l.rings.items
