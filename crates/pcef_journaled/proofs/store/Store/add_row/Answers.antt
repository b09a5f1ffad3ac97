use Rattle.std.proofs.Common.{◌≡◌, ◌∷◌, ◌∙◌, ap, sym}
use Rattle.pcef_journaled.proofs.Placed.{one_more_row}
use Rattle.pcef_journaled.proofs.store.Store.add_row.Goals as goal

pub returns-clause-rows : goal.returns-clause-rows
returns-clause-rows c =
    let more = one_more_row c.self.inside.names.names c.new.ensures.names.0 c.self.inside.rows.items c.new.result c.self.invariant in
    rw (c.push_reserved.ensures.items, ← c.self.view_is, ← c.new.ensures.row, c.new.ensures.names.1) more
