use Rattle.std.proofs.Common.{◌*◌, ◌%◌, ◌^◌}
use Rattle.std.specs.Int.{w64}
use Rattle.std.proofs.lemmas.Nat.Bits.{bit_at_set_same}
use Rattle.pcef_index.proofs.Bits.{or_keeps}
use Rattle.pcef_index.proofs.words.set.Goals as goal

pub returns-clause-keeps : goal.returns-clause-keeps
returns-clause-keeps c i has = or_keeps c.args.word.now (1 * 2 ^ c.args.bit % 2 ^ 64) i has

pub returns-clause-sets : goal.returns-clause-sets
returns-clause-sets c = bit_at_set_same w64 c.args.word.now c.args.bit c.requires
