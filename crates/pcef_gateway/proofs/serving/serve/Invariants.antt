use Rattle.std.specs.Prelude.{◌≡◌}
use Rattle.rtrb.specs.Ring.{SameConsumer, received}
use Rattle.pcef_gateway.specs.Taking.{taken_headers}
use Rattle.pcef_gateway.proofs.serving.serve.Given as goal

abbrev pub invariant-loop : goal.invariant-loop
invariant-loop g l = SameConsumer l.initial.consumer l.consumer × (taken_headers l.worker ≡ received l.consumer)
