use Rattle.pcef_index.proofs.Bits.{above_clears, above_keeps}
use Rattle.pcef_index.proofs.words.above.Goals as goal

pub returns-clause-keeps : goal.returns-clause-keeps
returns-clause-keeps c i small above has = above_keeps c.args.word c.args.bit i c.requires small above has

pub returns-clause-clears : goal.returns-clause-clears
returns-clause-clears c i below = above_clears c.args.word c.args.bit i c.requires below
