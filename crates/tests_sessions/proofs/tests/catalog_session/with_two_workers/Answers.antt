use Rattle.pcef_model.proofs.RowsLater.{batch_empty}
use Rattle.tests_sessions.proofs.tests.catalog_session.with_two_workers.Goals as goal

pub flush-requires-clause-follow : goal.flush-requires-clause-follow
flush-requires-clause-follow g c = rw c.requires (batch_empty _ _ _)

pub flush-requires-2-clause-follow : goal.flush-requires-2-clause-follow
flush-requires-2-clause-follow g c = rw c.requires (batch_empty _ _ _)
