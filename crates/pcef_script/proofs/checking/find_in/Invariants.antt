use Rattle.std.proofs.Common.{◌≡◌, ◌≤◌, ◌+◌, ◌++◌, List, ℕ, length}
use Rattle.pcef_script.specs.Scripts.{all_lines}
use Rattle.pcef_world.specs.Steps.{standing_of}
use Rattle.pcef_script.specs.Findings.{Finds}
use Rattle.pcef_script.proofs.checking.find_in.Given as goal

-- what is found in the lines so far
abbrev pub invariant-loop-lines : goal.invariant-loop-lines
invariant-loop-lines g l = record {
  lines : List (List ℕ);
  whole : all_lines l.fn.input ≡ lines ++ all_lines l.rest;
  finds : Finds l.fn.world.session.setting (standing_of l.fn.world) 1 lines l.found.items (standing_of l.world);
  number : l.number ≡ length lines;
  room : l.number + length l.rest ≤ length l.fn.input;
  setting : l.world.session.setting ≡ l.fn.world.session.setting;
}

abbrev pub decreases-loop-lines : goal.decreases-loop-lines
decreases-loop-lines g l = length l.rest
