use Rattle.std.proofs.Common.{◌≤◌, ◌^◌, arith}
use Rattle.std.proofs.Math.Nat.{pow-le-pow_right}
use Rattle.pcef_page.proofs.times.number_of.Goals as goal

pub overflow_mul-number : goal.overflow_mul-number
overflow_mul-number c =
    let below : c.loop-digit.digit-index ≤ 18 = omega (arith, c.requires, c.if-digits-most_digits.false, c.loop-digit-test.true) in
    let power : 10 ^ c.loop-digit.digit-index ≤ 10 ^ 18 = pow-le-pow_right (omega arith) below in
    omega (arith, power, c.loop-digit.invariant.bound)

pub overflow_add-number : goal.overflow_add-number
overflow_add-number c =
    let below : c.loop-digit.digit-index ≤ 18 = omega (arith, c.requires, c.if-digits-most_digits.false, c.loop-digit-test.true) in
    let power : 10 ^ c.loop-digit.digit-index ≤ 10 ^ 18 = pow-le-pow_right (omega arith) below in
    omega (arith, power, c.loop-digit.invariant.bound, c.from.ensures, c.if-not-is_ascii_digit.ensures.bound)

pub returns-clause-bound : goal.returns-clause-bound
returns-clause-bound c =
    let below : c.loop-digit.digit-index ≤ c.args.most_digits = omega (arith, c.if-digits-most_digits.false, c.loop-digit.auto.digit-index-end) in
    let power : 10 ^ c.loop-digit.digit-index ≤ 10 ^ c.args.most_digits = pow-le-pow_right (omega arith) below in
    omega (arith, power, c.loop-digit.invariant.bound)
