use Rattle.std.proofs.Common.{◌≡◌, ◌∷◌, Some, map}
use Rattle.pcef_lock.proofs.Gathered.{share_of}
use Rattle.pcef_lock.proofs.state.gathering.all_shares.Given as goal

abbrev pub invariant-loop-f : goal.invariant-loop-f
invariant-loop-f g l = (l.all.items ≡ Some l.fn.shares ∷ map share_of l.yielded) × (l.lists ≡ l.yielded)
