use Rattle.std.proofs.Common.{◌≡◌, ◌<◌, ℕ}
use Rattle.std.specs.Int.{bit_at}
use Rattle.pcef_index.specs.private.Digits.{HasDigits, digit_places}
use Rattle.pcef_index.proofs.digits.word_of.Given as goal

abbrev pub invariant-loop-digit : goal.invariant-loop-digit
invariant-loop-digit l = (i n : ℕ) → i < 64 → l.places ≡ digit_places n → HasDigits l.words 0 l.digit n i → bit_at l.word i ≡ 1
