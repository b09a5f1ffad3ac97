use Rattle.std.proofs.Common.{◌∙◌}
use Rattle.pcef_gateway.proofs.Handing.{one_added}
use Rattle.pcef_gateway.proofs.intake.close_next.Goals as goal

pub returns : goal.returns
returns g c = λ sent so_far own.
    one_added c.add.result sent _ _ _ _ c.args.ring c.in_ok-closed.closed.dropped c.in_ok-closed.closed.finished c.add.ensures.finished c.add.ensures.dropped so_far
    (c.in_ok-closed.ensures.number ∙ own) c.in_ok-closed.ensures.handed
