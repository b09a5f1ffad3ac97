use Rattle.std.proofs.Common.{◌≡◌, ◌<◌, get_or, length, arith}
use Rattle.pcef_table.specs.Sides.{stays_beside}
use Rattle.pcef_table.proofs.KeepingLoops.{one_more}
use Rattle.pcef_table.proofs.change.copy_side.Goals as goal

pub loop-entry-preserved : goal.loop-entry-preserved
loop-entry-preserved g c =
    let at = c.loop-entry in
    let entries = c.args.entries.now in
    let entry = c.entry-item.result in
    let within : at.entry-index < length entries = grind arith in
    let own : get_or entries at.entry-index entry ≡ entry = grind arith in
    one_more (stays_beside (g.C.Offers.offers c.args.catalog.now) c.args.x.now c.args.side) entries c.args.kept.now.items at.kept.items _ at.entry-index entry _ within own
    c.stays-stays.ensures at.invariant c.in_ok-keep.ensures
