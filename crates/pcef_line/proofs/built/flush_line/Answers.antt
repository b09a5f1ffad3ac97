use Rattle.pcef_line.proofs.BuiltLines.{flush_built}
use Rattle.pcef_line.proofs.built.flush_line.Goals as goal

pub returns : goal.returns
returns c = flush_built c.args.worker c.requires
