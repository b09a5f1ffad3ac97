use Rattle.std.proofs.Common.{◌∙◌, ◌++◌, ap}
use Rattle.rtrb.specs.Ring.{sent}
use Rattle.pcef_shards.specs.Leading.{octets_in, octets_if_there}
use Rattle.pcef_shards.proofs.Comings.{in_more}
use Rattle.pcef_shards.proofs.lane.Lane.lead.Goals as goal

pub returns : goal.returns
returns g c = ap octets_in c.in_ok-push.ensures ∙ in_more (sent c.self.inside.way) _ ∙ ap (λ t. t ++ octets_if_there c.args.octets) c.self.view_is
