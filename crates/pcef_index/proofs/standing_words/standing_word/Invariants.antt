use Rattle.std.proofs.Common.{◌≡◌, ◌<◌, ◌+◌, ◌*◌, ℕ, Some, true}
use Rattle.std.specs.Int.{bit_at}
use Rattle.pcef_index.specs.private.Lines.{stands}
use Rattle.pcef_index.specs.private.Runs.{rule_at}
use Rattle.pcef_index.proofs.standing_words.standing_word.Given as goal

abbrev pub invariant-loop-bit : goal.invariant-loop-bit
invariant-loop-bit l = (i k : ℕ) → i < l.bit → rule_at l.lines l.numbers (l.block * 64 + i) ≡ Some k → stands l.places k ≡ true → bit_at l.word i ≡ 1
