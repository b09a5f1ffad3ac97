use Rattle.std.specs.Prelude.{true}
use Rattle.pcef_share.specs.Names.{ledger_at}
use Rattle.pcef_run.proofs.pool_run.run_pool.Given as goal

-- the name of the pool, of the blanks and the capacity
abbrev pub ghosts-run_named : goal.ghosts-run_named
ghosts-run_named g a = record { ledger = ledger_at a.blanks; is_there = true; capacity = a.capacity }
