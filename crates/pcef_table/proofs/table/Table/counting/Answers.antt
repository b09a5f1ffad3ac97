use Rattle.pcef_table.proofs.Ordered.{counting_is_table}
use Rattle.pcef_table.proofs.table.Table.counting.Goals as goal

pub returns-clause-table : goal.returns-clause-table
returns-clause-table c =
    rw (c.in_ok-entries.ensures, c.entries.ensures.entries)
    (λ offers table. counting_is_table offers c.args.slot c.args.on c.args.self.now.entries table)
