use Rattle.std.proofs.Common.{arith}
use Rattle.pcef_index.proofs.DigitLaws.{digits_agree}
use Rattle.pcef_index.proofs.digits.mark_number.Goals as goal

pub returns : goal.returns
returns c = record {
  grows = c.loop-digit.invariant.grows;
  sets = λ n same k small.
      (let all = c.loop-digit-test.false in
      c.loop-digit.invariant.sets n (λ j below. digits_agree n c.args.number c.args.loose j same) k (omega (arith, small, all)));
}
