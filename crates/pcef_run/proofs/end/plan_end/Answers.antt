use Rattle.std.proofs.Common.{inl, refl}
use Rattle.pcef_run.proofs.end.plan_end.Goals as goal

pub returns-in-Ok : goal.returns-in-Ok
returns-in-Ok c = rw c.in-Line.is (inl (c.in-Ok.text, refl, c.in-Ok.ensures))
