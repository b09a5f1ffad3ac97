use Rattle.std.specs.Prelude.{◌≡◌}
use Rattle.rtrb.specs.Ring.{received}
use Rattle.pcef_shards.proofs.intake.await_next.Given as goal

abbrev pub invariant-loop : goal.invariant-loop
invariant-loop g l = received l.taker ≡ received l.initial.taker
