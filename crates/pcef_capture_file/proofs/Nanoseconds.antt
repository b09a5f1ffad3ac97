-- Fractions of a second in nanoseconds.
use Rattle.std.proofs.Common.{◌<◌, ◌*◌, ◌/◌, ◌^◌, ℕ, arith}
use Rattle.std.proofs.Math.Nat.{div-lt_iff_lt-mul}

pub below_second : (units per : ℕ) → units < per → units * 10 ^ 9 / per < 10 ^ 9
below_second units per lt =
    let some : 0 < per = omega (arith, lt) in
    (div-lt_iff_lt-mul some).1 (omega (arith, lt))
