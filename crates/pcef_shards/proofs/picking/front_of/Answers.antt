use Rattle.std.proofs.Common.{◌≡◌, ◌∙◌, ap, arith, length, min}
use Rattle.pcef_shards.specs.Picks.{before_space}
use Rattle.pcef_shards.proofs.Fronts.{front_found, front_whole, near_line}
use Rattle.pcef_shards.proofs.picking.front_of.Goals as goal

pub returns-in-Some : goal.returns-in-Some
returns-in-Some c =
    let line = c.args.line.now in
    let near = c.split_at.result.0.now in
    let count : c.min.result ≡ min 65 (length line) = omega (arith, c.min.ensures) in
    c.split_at-in-Some.ensures.front ∙ front_found near c.in-Some.place c.in-Some.ensures ∙ ap before_space (c.split_at.ensures.front ∙ near_line line c.min.result count)

pub returns-in-None : goal.returns-in-None
returns-in-None c =
    let line = c.args.line.now in
    let near = c.split_at.result.0.now in
    let count : c.min.result ≡ min 65 (length line) = omega (arith, c.min.ensures) in
    front_whole near c.in-None.ensures ∙ ap before_space (c.split_at.ensures.front ∙ near_line line c.min.result count)
