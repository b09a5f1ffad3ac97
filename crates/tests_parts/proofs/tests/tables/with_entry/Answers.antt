use Rattle.std.proofs.Common.{arith}
use Rattle.pcef_table.proofs.Ordered.{has_room}
use Rattle.tests_parts.proofs.tests.tables.with_entry.Goals as goal

pub with-requires-clause-room : goal.with-requires-clause-room
with-requires-clause-room g c =
    has_room (g.C.Offers.offers c.args.catalog.now) c.args.entry c.args.table.now.entries (omega (arith, c.len.ensures.is))
