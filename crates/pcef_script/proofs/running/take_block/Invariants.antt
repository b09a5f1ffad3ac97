use Rattle.std.proofs.Common.{◌≡◌, ◌++◌, List, Option, ℕ, length}
use Rattle.pcef_model.specs.Setting.{Setting}
use Rattle.pcef_script.specs.Running.{IsAfter}
use Rattle.pcef_script.proofs.running.take_block.Given as goal

abbrev pub invariant-loop-rest : goal.invariant-loop-rest
invariant-loop-rest g l = record {
  front : List ℕ;
  whole : l.block ≡ front ++ l.rest;
  after : (p : Setting) (start : Option (List ℕ)) (input : List ℕ)
      → IsAfter p start (g.W.Write.contents l.fn.writer) l.fn.script.line l.fn.script.faults l.fn.script.world input
      → IsAfter p start (g.W.Write.contents l.writer) l.script.line l.script.faults l.script.world (input ++ front);
  offers : l.script.world.session.setting.catalog ≡ l.fn.script.world.session.setting.catalog;
}

abbrev pub decreases-loop-rest : goal.decreases-loop-rest
decreases-loop-rest g l = length l.rest
