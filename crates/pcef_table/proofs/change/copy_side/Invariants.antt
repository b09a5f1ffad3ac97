use Rattle.std.proofs.Common.{◌≡◌, ◌++◌, filter, take}
use Rattle.pcef_table.specs.Sides.{stays_beside}
use Rattle.pcef_table.proofs.change.copy_side.Given as goal

abbrev pub invariant-loop-entry : goal.invariant-loop-entry
invariant-loop-entry g l = l.kept.items ≡ l.fn.kept.items ++ filter (stays_beside (g.C.Offers.offers l.catalog) l.x l.side) (take l.entry-index l.entries)
