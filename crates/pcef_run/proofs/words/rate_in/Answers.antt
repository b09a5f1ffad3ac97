use Rattle.std.proofs.Common.{◌≤◌, ◌^◌, arith}
use Rattle.std.proofs.Math.Nat.{pow-le-pow_right}
use Rattle.pcef_run.proofs.words.rate_in.Goals as goal

pub overflow_mul-number : goal.overflow_mul-number
overflow_mul-number c =
    let most : 10 ^ c.loop-digit.digit-index ≤ 1000000000000 = pow-le-pow_right {n = 10} (omega arith) {i = c.loop-digit.digit-index} {j = 12} (omega arith) in
    let bound = c.loop-digit.invariant.bound in
    omega (arith, most, bound)

pub overflow_add-number : goal.overflow_add-number
overflow_add-number c =
    let most : 10 ^ c.loop-digit.digit-index ≤ 1000000000000 = pow-le-pow_right {n = 10} (omega arith) {i = c.loop-digit.digit-index} {j = 12} (omega arith) in
    let bound = c.loop-digit.invariant.bound in
    let digit = c.type_inv.word c.loop-digit.digit-index in
    omega (arith, most, bound, c.from.ensures, digit)
