use Rattle.tests_workers.proofs.Fresh.{no_worker_yet}
use Rattle.tests_workers.proofs.tests.halts.behind_its_lock.Goals as goal

pub open-requires-clause-fresh : goal.open-requires-clause-fresh
open-requires-clause-fresh g c = no_worker_yet c.args.opening.session.session.journal c.requires.fresh
