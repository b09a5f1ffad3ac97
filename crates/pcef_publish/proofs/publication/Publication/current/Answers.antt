use Rattle.std.specs.Arc.{arc_value}
use Rattle.pcef_publish.proofs.Runs.{run_table}
use Rattle.pcef_publish.proofs.publication.Publication.current.Goals as goal

pub returns-clause-table : goal.returns-clause-table
returns-clause-table g c =
    run_table g.N.Naming.setting.catalog g.N.Naming.first c.self.inside.front (arc_value c.self.inside.table) c.len-len.ensures.run c.self.invariant
