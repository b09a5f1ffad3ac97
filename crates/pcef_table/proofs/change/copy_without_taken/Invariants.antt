use Rattle.std.proofs.Common.{◌≡◌, take}
use Rattle.pcef_table.specs.Tables.{without_taken}
use Rattle.pcef_table.proofs.change.copy_without_taken.Given as goal

abbrev pub invariant-loop-entry : goal.invariant-loop-entry
invariant-loop-entry g l = l.kept.items ≡ without_taken (g.C.Offers.offers l.catalog) l.command (take l.entry-index l.entries)
