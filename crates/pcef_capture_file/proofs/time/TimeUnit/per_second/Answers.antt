use Rattle.std.proofs.Common.{◌≡◌, ◌<◌, ◌≤◌, ◌^◌, IfSome, ℕ, Some, None, arith, ap}
use Rattle.std.specs.Prelude.{Option}
use Rattle.std.specs.Option.{SomeIff}
use Rattle.std.proofs.Math.Nat.{one-le-pow}
use Rattle.pcef_capture_file.proofs.time.TimeUnit.per_second.Goals as goal

-- a power that fits isn't 0
some_power : (r : Option ℕ) (most n : ℕ) → SomeIff r (10 ^ n < most) (10 ^ n) → IfSome r (λ p. 0 < p)
some_power None most n is = tt
some_power (Some p) most n is =
    let some : 1 ≤ 10 ^ n = one-le-pow n 10 (omega arith) in
    omega (arith, some, is)

pub returns-in-Decimal-clause-some : goal.returns-in-Decimal-clause-some
returns-in-Decimal-clause-some c = some_power c.checked_pow.result _ c.from.result c.checked_pow.ensures
