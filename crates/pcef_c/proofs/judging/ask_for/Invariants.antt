use Rattle.pcef_c.specs.Judging.{AreAsked}
use Rattle.pcef_c.proofs.judging.ask_for.Given as goal

abbrev pub invariant-loop-place : goal.invariant-loop-place
invariant-loop-place l = AreAsked l.fn.verdicts l.verdicts l.fn.from l.fn.end
