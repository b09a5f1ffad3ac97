use Rattle.std.proofs.Common.{ℕ, ◌<◌}
use Rattle.pcef_lock.specs.Gathering.{HasLane}
use Rattle.pcef_lock.proofs.gathering.first_difference.Given as goal

abbrev pub invariant-loop-worker : goal.invariant-loop-worker
invariant-loop-worker g l = (w : ℕ) → w < l.worker → HasLane l.session.session.journal l.finished w
