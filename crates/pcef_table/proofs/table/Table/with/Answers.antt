use Rattle.pcef_table.proofs.Ordered.{placed_is_table}
use Rattle.pcef_table.proofs.table.Table.with.Goals as goal

pub returns-clause-table : goal.returns-clause-table
returns-clause-table g c =
    let offers = g.C.Offers.offers c.args.catalog.now in
    rw (c.in_ok-entries.ensures, c.entries.ensures.entries)
    (placed_is_table offers c.args.entry c.args.self.now.entries c.requires.known c.requires.table)
