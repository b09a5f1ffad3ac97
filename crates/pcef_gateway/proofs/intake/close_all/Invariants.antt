use Rattle.std.specs.Prelude.{◌≡◌, length}
use Rattle.pcef_gateway.specs.Sending.{HandInTheirs}
use Rattle.pcef_gateway.proofs.intake.close_all.Given as goal

abbrev pub invariant-loop-ring : goal.invariant-loop-ring
invariant-loop-ring g l = HandInTheirs l.yielded l.handed.dropped l.handed.finished.items × (l.worker ≡ length l.yielded)
