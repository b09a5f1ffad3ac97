use Rattle.std.proofs.Common.{◌∙◌}
use Rattle.pcef_shards.proofs.Fronts.{space_found}
use Rattle.pcef_shards.proofs.picking.has_space.Goals as goal

pub returns : goal.returns
returns c = c.is_some.ensures ∙ space_found c.args.octets.now c.memchr.result c.memchr.ensures
