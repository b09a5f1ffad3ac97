use Rattle.std.proofs.Common.{◌≡◌, drop, find}
use Rattle.pcef_table.specs.Sources.{source_fits}
use Rattle.pcef_table.specs.declared.entry.TableEntry.{TableEntry}
use Rattle.pcef_table.proofs.deciding.first_fitting.Given as goal

-- what is found from here on is found at all
abbrev pub invariant-loop-place : goal.invariant-loop-place
invariant-loop-place g l =
    find (λ (e : TableEntry). source_fits (g.C.Offers.offers l.catalog) l.ue l.header e.source) (drop l.place l.entries)
    ≡ find (λ (e : TableEntry). source_fits (g.C.Offers.offers l.catalog) l.ue l.header e.source) l.entries
