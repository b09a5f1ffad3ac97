use Rattle.std.proofs.Common.{◌∙◌, arith}
use Rattle.pcef_index.specs.private.Nets.{net_row}
use Rattle.pcef_index.proofs.Agreeing.{agree_small}
use Rattle.pcef_index.proofs.Bounding.{bound_grows}
use Rattle.pcef_index.proofs.nets.Nets.add.Goals as goal

pub mark-requires-clause-first : goal.mark-requires-clause-first
mark-requires-clause-first c =
    let rows = c.requires.nets.rows in
    let within = c.cell_of-first.ensures.within in
    omega (arith, rows, within)

pub mark-requires-clause-last : goal.mark-requires-clause-last
mark-requires-clause-last c =
    let rows = c.requires.nets.rows in
    let within = c.cell_of-last.ensures.within in
    omega (arith, rows, within)

pub returns-clause-nets : goal.returns-clause-nets
returns-clause-nets c = record { rows = c.mark.ensures.rows ∙ c.requires.nets.rows; words = c.mark.ensures.words }

pub returns-clause-keeps : goal.returns-clause-keeps
returns-clause-keeps c block n i lets = c.mark.ensures.keeps block (net_row c.args.self.now n) i lets

pub returns-clause-lets : goal.returns-clause-lets
returns-clause-lets c n same =
    let bounds = c.args.self.now.bounds.ends.items in
    let range = c.range_of-first.ensures n (agree_small n c.args.number c.args.loose c.requires.loose (omega (arith, c.ranges.number.fits)) same) same in
    let above = bound_grows bounds c.range_of-first.result.0 n range.0 in
    let below = bound_grows bounds n c.range_of-first.result.1 range.1 in
    let first = c.cell_of-first.ensures.is in
    let last = c.cell_of-last.ensures.is in
    c.mark.ensures.sets (net_row c.args.self.now n) (omega (arith, first, above)) (omega (arith, last, below))
