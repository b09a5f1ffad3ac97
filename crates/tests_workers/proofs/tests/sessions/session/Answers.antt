use Rattle.std.proofs.Common.{ap}
use Rattle.pcef_model.specs.Journals.{attach_count}
use Rattle.tests_workers.proofs.tests.sessions.session.Goals as goal

pub returns-clause-fresh : goal.returns-clause-fresh
unfolding attach_count
returns-clause-fresh c = ap attach_count c.in_ok-open.ensures.made.1
