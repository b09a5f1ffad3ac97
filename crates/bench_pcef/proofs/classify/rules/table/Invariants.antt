use Rattle.std.proofs.Common.{◌≡◌}
use Rattle.pcef_catalog.specs.Catalogs.{offers_of}
use Rattle.pcef_table.specs.Tables.{IsTable}
use Rattle.bench_pcef.proofs.classify.rules.table.Given as goal

abbrev pub invariant-loop-line : goal.invariant-loop-line
invariant-loop-line g l =
    (goal.iterator-loop-line g).can_next l.line-iterator ×
    (goal.iterator-loop-line g).is_finite l.line-iterator ×
    (l.catalog ≡ l.initial.catalog) ×
    IsTable (offers_of l.catalog) l.table.entries
