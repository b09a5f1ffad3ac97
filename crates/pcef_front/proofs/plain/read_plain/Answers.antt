use Rattle.std.proofs.Common.{rules, ◌∙◌}
use Rattle.pcef_front.proofs.PlainPackets.{plain_read}
use Rattle.pcef_front.proofs.plain.read_plain.Goals as goal

pub returns : goal.returns
returns c =
    plain_read c.args.dir c.args.octets.now (search rules) (search rules) (search rules) (search rules) (search rules) ∙ search rules
