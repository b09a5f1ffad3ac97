use Rattle.std.proofs.Common.{arith}
use Rattle.pcef_packet.proofs.GroupNumbers.{both_fit}
use Rattle.pcef_packet.proofs.colon_hex.expand.Goals as goal

pub overflow_add-result : goal.overflow_add-result
overflow_add-result c =
    let high = c.in-Some.ensures.bound in
    let low = c.in-Some-side.ensures.bound in
    let room = both_fit c.in-Some.high c.in-Some-side.low c.in-Some.highs c.in-Some-side.lows high.0 low.0 c.if-highs-lows-le7.true in
    omega (arith, room, c.in_front.ensures)
