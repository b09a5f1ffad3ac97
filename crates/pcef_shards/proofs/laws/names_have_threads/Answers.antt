use Rattle.pcef_shards.proofs.Names.{other_threads, own_thread}
use Rattle.pcef_shards.proofs.laws.names_have_threads.Goals as goal

pub returns-clause-own : goal.returns-clause-own
returns-clause-own c = own_thread

pub returns-clause-others : goal.returns-clause-others
returns-clause-others c = other_threads
