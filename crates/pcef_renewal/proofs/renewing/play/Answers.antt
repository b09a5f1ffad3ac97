use Rattle.pcef_renewal.proofs.Played.{one_more}
use Rattle.pcef_renewal.proofs.renewing.play.Goals as goal

pub loop-command-preserved : goal.loop-command-preserved
loop-command-preserved c =
    one_more c.args.session.now c.loop-command.session c.command.new.self c.args.list.now c.loop-command.command-index c.command-item.result c.in_ok-copy.copy c.in-Ok.field-0
    c.loop-command-test.true c.command-item.is c.in_ok-copy.ensures c.loop-command.invariant c.in-Ok.ensures.answer c.in-Ok.ensures.setting c.in-Ok.ensures.forgotten
