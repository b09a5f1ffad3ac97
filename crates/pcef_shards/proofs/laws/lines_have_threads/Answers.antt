use Rattle.pcef_shards.proofs.Parted.{a_thread, own_part}
use Rattle.pcef_shards.proofs.laws.lines_have_threads.Goals as goal

pub returns-clause-threads : goal.returns-clause-threads
returns-clause-threads c = a_thread

pub returns-clause-parts : goal.returns-clause-parts
returns-clause-parts c = own_part
