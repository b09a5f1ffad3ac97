use Rattle.std.proofs.Common.{arith}
use Rattle.pcef_packet.proofs.GroupWalks.{gap_within}
use Rattle.pcef_packet.proofs.colon_hex.colon_hex_number.Goals as goal

pub slice_bounds-expand-count : goal.slice_bounds-expand-count
slice_bounds-expand-count c =
    let place = c.place_of_gap-place.ensures.place in
    let within = gap_within c.args.text.now (omega (arith, place, c.if-place-text.true)) in
    omega (arith, place, within)

pub slice_bounds-expand-start : goal.slice_bounds-expand-start
slice_bounds-expand-start c =
    let place = c.place_of_gap-place.ensures.place in
    let within = gap_within c.args.text.now (omega (arith, place, c.if-place-text.true)) in
    omega (arith, place, within)
