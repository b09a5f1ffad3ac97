use Rattle.std.proofs.Common.{refl}
use Rattle.pcef_run.proofs.end.run_text.Goals as goal

pub returns-in-Workers : goal.returns-in-Workers
returns-in-Workers c = rw c.in-Workers.is refl

pub returns-in-StrangeWorker : goal.returns-in-StrangeWorker
returns-in-StrangeWorker c = rw c.in-StrangeWorker.is refl

pub returns-in-Shared : goal.returns-in-Shared
returns-in-Shared c = rw c.in-Shared.is refl

pub returns-in-Ring : goal.returns-in-Ring
returns-in-Ring c = rw c.in-Ring.is refl

pub returns-in-Attach : goal.returns-in-Attach
returns-in-Attach c = rw c.in-Attach.is refl

pub returns-in-Thread : goal.returns-in-Thread
returns-in-Thread c = rw c.in-Thread.is refl

pub returns-in-Gather : goal.returns-in-Gather
returns-in-Gather c = rw c.in-Gather.is refl

pub returns-in-NoMemory : goal.returns-in-NoMemory
returns-in-NoMemory c = rw c.in-NoMemory.is refl
