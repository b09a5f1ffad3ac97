use Rattle.std.proofs.Common.{rules}
use Rattle.pcef_session.specs.Following.{row_of}
use Rattle.pcef_handover.proofs.Compared.{mapped_here}
use Rattle.pcef_handover.proofs.comparing.is_lane.Goals as goal

pub returns-in_default : goal.returns-in_default
returns-in_default c =
    let here = mapped_here row_of c.args.items.now c.loop-item.item-index c.item-item.result c.loop-item-test.true c.item-item.is in
    search (rules, here)

pub returns-in_default-2 : goal.returns-in_default-2
returns-in_default-2 c =
    let here = mapped_here row_of c.args.items.now c.loop-item.item-index c.item-item.result c.loop-item-test.true c.item-item.is in
    search (rules, here)

pub loop-item-preserved : goal.loop-item-preserved
loop-item-preserved c =
    let here = mapped_here row_of c.args.items.now c.loop-item.item-index c.item-item.result c.loop-item-test.true c.item-item.is in
    search (rules, here)
