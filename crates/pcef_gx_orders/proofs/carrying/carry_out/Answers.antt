use Rattle.std.proofs.Common.{◌∙◌, sym}
use Rattle.pcef_gx_orders.proofs.Told.{told_so_far, told_whole}
use Rattle.pcef_gx_orders.proofs.carrying.carry_out.Goals as goal

pub returns-in-Refused-clause-done : goal.returns-in-Refused-clause-done
returns-in-Refused-clause-done g c =
    told_so_far c.args.world.now.session.setting c.args.world.now.session.journal c.loop-named.world.session.journal
    c.carry.new.world.session.journal c.args.orders.now c.loop-named.reports.items c.loop-named.named-index
    c.named-item.result c.loop-named.invariant.0 c.loop-named-test.true c.named-item.is
    (rw (← c.loop-named.invariant.4, ← c.order.ensures, ← c.in-Refused.is) c.carry.ensures.fate)

pub returns-clause-done : goal.returns-clause-done
returns-clause-done g c =
    told_whole c.args.world.now.session.setting c.args.world.now.session.journal c.loop-named.world.session.journal
    c.args.orders.now c.loop-named.reports.items c.loop-named.named-index c.loop-named.invariant.0 c.loop-named-test.false
