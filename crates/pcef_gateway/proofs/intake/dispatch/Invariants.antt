use Rattle.std.specs.Prelude.{◌≡◌, ◌++◌, ◌<◌, ℕ, [], take, length, slice_index_or}
use Rattle.pcef_gateway.specs.Arriving.{headers_for}
use Rattle.pcef_gateway.proofs.intake.dispatch.Given as goal

abbrev pub invariant-loop-arrival : goal.invariant-loop-arrival
invariant-loop-arrival g l =
    (w : ℕ) → w < length l.rings → slice_index_or l.rings w [] ≡ slice_index_or l.initial.rings w [] ++ headers_for w (take l.arrival-index l.arrivals)
