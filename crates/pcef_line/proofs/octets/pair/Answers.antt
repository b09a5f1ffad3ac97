use Rattle.std.proofs.Common.{arith}
use Rattle.pcef_line.proofs.Digits.{pair_read, pair_refused}
use Rattle.pcef_line.proofs.octets.pair.Goals as goal

pub returns-then-octet-lt256 : goal.returns-then-octet-lt256
returns-then-octet-lt256 c = λ i. pair_read c.args.high c.args.low i _ _ c.digit.ensures.value c.digit-2.ensures.value (omega (arith, c.if-octet-lt256.true))

pub returns-else-octet-lt256 : goal.returns-else-octet-lt256
returns-else-octet-lt256 c = λ i. pair_refused c.args.high c.args.low i _ _ c.digit.ensures.value c.digit-2.ensures.value (omega (arith, c.if-octet-lt256.false))
