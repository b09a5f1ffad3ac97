use Rattle.std.proofs.Common.{◌≡◌, length}
use Rattle.pcef_index.specs.private.Standing.{AreStanding}
use Rattle.pcef_index.proofs.standing_words.standing_words.Given as goal

abbrev pub invariant-loop-block : goal.invariant-loop-block
invariant-loop-block l = record {
  long : length l.words.items ≡ l.block;
  standing : AreStanding l.places l.lines l.numbers l.words.items;
}
