use Rattle.pcef_table.specs.Tables.{IsTable}
use Rattle.tests_parts.proofs.tests.tables.table_of.Given as goal

abbrev pub invariant-loop-variant : goal.invariant-loop-variant
invariant-loop-variant g l = IsTable (g.C.Offers.offers l.catalog) l.table.entries
