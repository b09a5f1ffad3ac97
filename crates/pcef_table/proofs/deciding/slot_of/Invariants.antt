use Rattle.std.proofs.Common.{◌≡◌, drop, find}
use Rattle.pcef_table.specs.Sources.{source_is_named}
use Rattle.pcef_table.specs.declared.entry.TableEntry.{TableEntry}
use Rattle.pcef_table.proofs.deciding.slot_of.Given as goal

abbrev pub invariant-loop-entry : goal.invariant-loop-entry
invariant-loop-entry g l =
    find (λ (e : TableEntry). source_is_named (g.C.Offers.offers l.catalog) l.name e.source) (drop l.entry-index l.entries)
    ≡ find (λ (e : TableEntry). source_is_named (g.C.Offers.offers l.catalog) l.name e.source) l.entries
