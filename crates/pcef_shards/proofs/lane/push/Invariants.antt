use Rattle.std.specs.Prelude.{◌≡◌}
use Rattle.rtrb.specs.Ring.{SameProducer, sent}
use Rattle.pcef_shards.proofs.lane.push.Given as goal

abbrev pub invariant-loop : goal.invariant-loop
invariant-loop g l = (sent l.way ≡ sent l.initial.way) × SameProducer l.initial.way l.way × (l.parcel ≡ l.initial.parcel)
