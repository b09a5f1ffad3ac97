use Rattle.std.proofs.Common.{refl, arith}
use Rattle.pcef_line.proofs.Digits.{digit_is, digit_most}
use Rattle.pcef_line.proofs.octets.digit.Goals as goal

pub returns-clause-value : goal.returns-clause-value
returns-clause-value c = digit_is c.args.code _ (omega arith) refl

pub returns-clause-most : goal.returns-clause-most
returns-clause-most c = digit_most c.args.code _ (omega arith) refl
