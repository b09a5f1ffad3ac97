use Rattle.std.proofs.Common.{refl}
use Rattle.pcef_handle.proofs.held.Handle.flush.Goals as goal

pub returns-in-Ok-clause-flushes : goal.returns-in-Ok-clause-flushes
returns-in-Ok-clause-flushes c = rw (c.in-Some.is, c.in-Some-worker.is) (c.in-Ok.verdicts, c.in-Ok.ensures, refl)
