use Rattle.pcef_renewal.proofs.Played.{by_answer, one_more}
use Rattle.pcef_renewal.proofs.world.play.Goals as goal

pub loop-next-preserved : goal.loop-next-preserved
loop-next-preserved g c =
    let old = c.loop-next.world.session in
    one_more c.args.world.now.session old c.command.new.world.session c.args.list.now c.loop-next.next-index c.next-item.result c.in_ok-copy.copy c.in-Ok.field-0
    c.loop-next-test.true c.next-item.is c.in_ok-copy.ensures c.loop-next.invariant
    (by_answer old.setting c.in_ok-copy.copy old.journal c.command.new.world.session.journal c.in-Ok.field-0 c.in-Ok.ensures.answer) c.in-Ok.ensures.setting c.in-Ok.ensures.forgotten
