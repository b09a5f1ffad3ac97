use Rattle.std.specs.Prelude.{length}
use Rattle.pcef_shards.specs.Leading.{part_known}
use Rattle.pcef_shards.proofs.run.serve_in_threads.Given as goal

-- what is to be led to each thread
abbrev pub ghosts-run_named : goal.ghosts-run_named
ghosts-run_named g a = record { part = part_known a.sorting.picking.keys (length a.tasks.writers.items) (g.R.Read.remaining a.reader) }
