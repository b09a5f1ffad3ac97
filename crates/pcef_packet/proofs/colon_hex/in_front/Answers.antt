use Rattle.std.proofs.Common.{arith}
use Rattle.pcef_packet.proofs.GroupNumbers.{shift_fits, shift_value}
use Rattle.pcef_packet.proofs.colon_hex.in_front.Goals as goal

pub overflow_mul-high : goal.overflow_mul-high
overflow_mul-high c =
    let fits = shift_fits c.loop-i.high c.loop-i.i c.loop-i.invariant.bound c.loop-i-test.true in
    omega (arith, fits.0)

pub loop-i-preserved : goal.loop-i-preserved
loop-i-preserved c =
    let fits = shift_fits c.loop-i.high c.loop-i.i c.loop-i.invariant.bound c.loop-i-test.true in
    record { value = shift_value _ _ _ c.loop-i-test.true c.loop-i.invariant.value; bound = fits.1 }
