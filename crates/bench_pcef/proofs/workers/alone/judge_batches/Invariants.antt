use Rattle.std.proofs.Common.{◌≡◌}
use Rattle.pcef_lock.specs.Judging.{FollowsLast}
use Rattle.bench_pcef.proofs.workers.alone.judge_batches.Given as goal

-- the seat keeps its address and its shares, and the cache follows its table
abbrev pub invariant-loop-number : goal.invariant-loop-number
invariant-loop-number g l =
    (l.alone.seat.ue ≡ g.N.Naming.setting.ue) × (l.alone.seat.shares ≡ l.fn.alone.seat.shares)
    × FollowsLast g.N.Naming.setting l.alone.seat.subscriber l.alone.flows
