use Rattle.pcef_renewal.proofs.Played.{IsPlayed}
use Rattle.pcef_renewal.proofs.world.play.Given as goal

abbrev pub invariant-loop-next : goal.invariant-loop-next
invariant-loop-next g l = IsPlayed l.initial.world.session l.world.session l.list l.next-index
