use Rattle.std.specs.Prelude.{◌≡◌, ◌+◌, length}
use mathlib.Core.List.{IsPrefix}
use Rattle.rtrb.specs.Ring.{SameConsumer, received}
use Rattle.pcef_gateway.proofs.serving.drain.Given as goal

abbrev pub invariant-loop : goal.invariant-loop
invariant-loop g l =
    SameConsumer l.initial.consumer l.consumer × IsPrefix (received l.initial.consumer) (received l.consumer)
    × (length (received l.consumer) ≡ length (received l.initial.consumer) + l.dropped)
