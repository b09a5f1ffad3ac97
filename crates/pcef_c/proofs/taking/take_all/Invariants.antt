use Rattle.pcef_c.proofs.Taken.{GoOnFrom}
use Rattle.pcef_c.proofs.taking.take_all.Given as goal

abbrev pub invariant-loop-place : goal.invariant-loop-place
invariant-loop-place l = GoOnFrom l.fn.packets l.fn.verdicts l.fn.worker l.place l.verdicts l.worker
