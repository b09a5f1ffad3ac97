use Rattle.std.proofs.Common.{refl}
use Rattle.pcef_run.proofs.Splits.{packet_added}
use Rattle.pcef_run.proofs.plan.Plan.add_packet.Goals as goal

pub returns : goal.returns
returns c = λ asked is. packet_added asked c.args.self.now _ c.args.arrival refl c.in_ok-push.ensures.items refl is
