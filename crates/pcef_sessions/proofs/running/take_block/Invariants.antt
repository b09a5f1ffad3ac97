use Rattle.std.proofs.Common.{◌≡◌, ◌++◌, List, Option, ℕ, length}
use Rattle.pcef_model.specs.Setting.{Setting}
use Rattle.pcef_sessions.specs.private.Running.{StandsAfter}
use Rattle.pcef_sessions.proofs.running.take_block.Given as goal

abbrev pub invariant-lines : goal.invariant-lines
invariant-lines g l = record {
  front : List ℕ;
  whole : l.block ≡ front ++ l.rest;
  after : (p : Setting) (start : Option (List ℕ)) (input : List ℕ)
      → StandsAfter p start (g.W.Write.contents l.fn.writer) l.fn.serving input
      → StandsAfter p start (g.W.Write.contents l.writer) l.serving (input ++ front);
}

abbrev pub decreases-lines : goal.decreases-lines
decreases-lines g l = length l.rest
