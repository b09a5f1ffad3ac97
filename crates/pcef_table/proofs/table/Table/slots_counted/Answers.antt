use Rattle.std.proofs.Common.{◌∙◌, ap}
use Rattle.pcef_table.specs.SessionSlots.{slots_beside}
use Rattle.pcef_table.proofs.Decided.{beside_counted}
use Rattle.pcef_table.proofs.table.Table.slots_counted.Goals as goal

pub returns : goal.returns
returns g c =
    c.slots_beside.ensures
    ∙ ap (λ o. slots_beside o c.args.self.now.session c.args.verdict.now) c.counts.ensures
    ∙ beside_counted (g.C.Offers.offers c.args.catalog.now) c.args.self.now c.args.verdict.now
