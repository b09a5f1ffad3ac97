use Rattle.std.specs.Prelude.{◌≡◌}
use Rattle.pcef_shards.specs.Intakes.{left_of}
use Rattle.pcef_shards.proofs.intake.Led.refill.Given as goal

abbrev pub invariant-loop : goal.invariant-loop
invariant-loop g l = left_of g.N.Leading.part l.self ≡ left_of g.N.Leading.part l.initial.self
