use Rattle.std.proofs.Common.{subst}
use Rattle.pcef_flow.specs.Flows.{Remembers}
use Rattle.pcef_table.specs.Tables.{TableValue}
use Rattle.tests_parts.specs.declared.tests.tables.TheConstants.{UE}
use Rattle.tests_parts.proofs.tests.flow.asked_of.Goals as goal

pub asked_by-requires-clause-remembers : goal.asked_by-requires-clause-remembers
asked_by-requires-clause-remembers g c =
    subst (λ (t : TableValue). Remembers c.in_ok-catalog.catalog.listing t.entries UE c.follow.new.self) c.table.ensures (c.follow.ensures UE)
