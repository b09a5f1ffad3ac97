use Rattle.std.proofs.Common.{sym}
use Rattle.pcef_session.proofs.RowLoops.{lane_grown}
use Rattle.pcef_session.proofs.rows.lengthen.Goals as goal

pub returns-in-Some : goal.returns-in-Some
returns-in-Some c = lane_grown c.args.worker c.args.items.now c.in-Some.newest.now c.args.lanes.now _ c.lengthen.ensures (sym c.in-Some.ensures.value)
