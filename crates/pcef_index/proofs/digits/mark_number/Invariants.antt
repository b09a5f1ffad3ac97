use Rattle.std.proofs.Common.{◌<◌, ◌-◌, ◌*◌, ℕ}
use Rattle.pcef_index.specs.private.Digits.{AgreeAbove, HasDigits, digit_of}
use Rattle.pcef_index.specs.private.Words.{Grows}
use Rattle.pcef_index.proofs.digits.mark_number.Given as goal

abbrev pub invariant-loop-digit : goal.invariant-loop-digit
invariant-loop-digit l = record {
  grows : Grows l.fn.words l.words;
  sets : (n : ℕ) → ((k : ℕ) → k < 8 → AgreeAbove (l.loose - 4 * k) (digit_of n k) (digit_of l.number k)) → HasDigits l.words l.at l.digit n l.bit;
}
