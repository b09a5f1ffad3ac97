use Rattle.std.proofs.Common.{◌≡◌, map, take}
use Rattle.pcef_table.specs.Tables.{with_counting}
use Rattle.pcef_table.proofs.change.copy_counting.Given as goal

abbrev pub invariant-loop-entry : goal.invariant-loop-entry
invariant-loop-entry l = l.copies.items ≡ map (with_counting l.slot l.on) (take l.entry-index l.entries)
