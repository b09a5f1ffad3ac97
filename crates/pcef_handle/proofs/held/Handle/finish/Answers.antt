use Rattle.std.proofs.Common.{refl}
use Rattle.pcef_handle.proofs.held.Handle.finish.Goals as goal

pub returns-in-Ok-clause-finishes : goal.returns-in-Ok-clause-finishes
returns-in-Ok-clause-finishes c = rw (c.in-Some.is, c.in-Some-worker.is) (c.in-Ok.verdicts, c.in-Ok.ensures, refl)
