use Rattle.pcef_renewal.proofs.Played.{IsPlayed}
use Rattle.pcef_renewal.proofs.renewing.play.Given as goal

abbrev pub invariant-loop-command : goal.invariant-loop-command
invariant-loop-command l = IsPlayed l.initial.session l.session l.list l.command-index
