use Rattle.std.proofs.Common.{◌<◌, ◌≤◌, ℕ}
use Rattle.pcef_index.specs.private.Words.{Grows, Has}
use Rattle.pcef_index.proofs.words.mark_words.Given as goal

abbrev pub invariant-loop-place : goal.invariant-loop-place
invariant-loop-place l = record {
  grows : Grows l.fn.words l.words;
  sets : (k : ℕ) → l.fn.first ≤ k → k < l.place → Has l.words k l.bit;
}
