use Rattle.std.proofs.Common.{Err, refl}
use Rattle.pcef_handle.specs.declared.judging.JudgeRefusal.TheVariants.{NoSession}
use Rattle.pcef_handle.proofs.held.Handle.judge.Goals as goal

pub returns-in-None-clause-judged : goal.returns-in-None-clause-judged
returns-in-None-clause-judged c = (Err NoSession, rw c.in-None.is refl, refl)
