use Rattle.std.proofs.Common.{arith}
use Rattle.pcef_packet.proofs.GroupNumbers.{sixteen}
use Rattle.pcef_packet.proofs.colon_hex.group.Goals as goal

pub overflow_cast-result : goal.overflow_cast-result
overflow_cast-result c =
    let index = c.loop-octet.auto.octet-index-end in
    let small = sixteen c.loop-octet.number c.loop-octet.octet-index c.loop-octet.invariant.bound (omega (arith, c.if-digits-gt4.false, index)) in
    omega (arith, small)
