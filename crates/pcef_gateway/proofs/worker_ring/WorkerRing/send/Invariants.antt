use Rattle.std.specs.Prelude.{◌≡◌}
use Rattle.rtrb.specs.Ring.{SameProducer, sent}
use Rattle.pcef_gateway.proofs.worker_ring.WorkerRing.send.Given as goal

abbrev pub invariant-loop : goal.invariant-loop
invariant-loop g l = (sent l.producer ≡ sent l.initial.producer) × SameProducer l.initial.producer l.producer × (l.header ≡ l.initial.header)
