use Rattle.std.proofs.Common.{subst}
use Rattle.pcef_flow.specs.Flows.{Remembers}
use Rattle.pcef_table.specs.Tables.{TableValue}
use Rattle.tests_parts.specs.declared.tests.tables.TheConstants.{UE}
use Rattle.tests_parts.proofs.tests.flow.asked_by.Goals as goal

pub asked-requires-7-clause-remembers : goal.asked-requires-7-clause-remembers
asked-requires-7-clause-remembers g c =
    subst (λ (t : TableValue). Remembers (g.C.Offers.offers c.args.catalog.now) t.entries UE c.follow.new.self) c.table.ensures (c.follow.ensures UE)
