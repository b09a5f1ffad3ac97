use Rattle.tests_workers.proofs.Fresh.{no_rates_yet, no_worker_yet}
use Rattle.tests_workers.proofs.tests.pool.desks.behind_lock.Goals as goal

pub open_within-requires-clause-rates : goal.open_within-requires-clause-rates
open_within-requires-clause-rates g c = no_rates_yet c.args.side.opening.session.session.setting c.args.side.opening.session.session.journal c.requires.fresh

pub open_within-requires-clause-fresh : goal.open_within-requires-clause-fresh
open_within-requires-clause-fresh g c = no_worker_yet c.args.side.opening.session.session.journal c.requires.fresh
