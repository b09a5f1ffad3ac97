use Rattle.std.proofs.Common.{◌≡◌}
use Rattle.pcef_lock.specs.Judging.{FollowsLast}
use Rattle.bench_pcef.proofs.workers.alone.judge_each.Given as goal

-- the seat stays, and the cache follows its table
abbrev pub invariant-loop-packet : goal.invariant-loop-packet
invariant-loop-packet g l =
    (l.alone.seat ≡ l.fn.alone.seat) × FollowsLast g.N.Naming.setting l.alone.seat.subscriber l.alone.flows
