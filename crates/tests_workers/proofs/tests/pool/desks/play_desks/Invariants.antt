use Rattle.pcef_share.specs.Names.{ledger_at}
use Rattle.std.specs.Prelude.{true}
use Rattle.tests_workers.proofs.tests.pool.desks.play_desks.Given as goal

-- the name of the pool, of its blanks and of its capacity
abbrev pub ghosts-pool_named : goal.ghosts-pool_named
ghosts-pool_named g a = record { ledger = ledger_at a.blanks; is_there = true; capacity = a.capacity }
