use Rattle.std.proofs.Common.{◌≡◌, ◌<◌, ◌^◌, ◌+◌, ◌++◌, List, [], length}
use Rattle.std.specs.Prelude.{map}
use Rattle.std.specs.List.{zip}
use Rattle.pcef_page.specs.Collecting.{AreFiguresOf, rules_from}
use Rattle.pcef_page.specs.Pairing.{Exchange, exchange_of, exchanges, filled}
use Rattle.pcef_page.specs.private.Lines.{HasRoom, left, size}
use Rattle.pcef_page.proofs.collecting.collect.Given as goal

-- the figures are those of the lines so far
abbrev pub invariant-loop-line : goal.invariant-loop-line
invariant-loop-line g l = record {
  told : List Exchange;
  whole : exchanges l.fn.lines l.fn.answers ≡ told ++ map exchange_of (zip (left l.script) (left l.answers));
  tells : AreFiguresOf told l.collected.figures;
  active : l.collected.active ≡ rules_from [] told;
  lines : length (filled l.fn.lines) ≡ length told + length (left l.script);
  answers : length (filled l.fn.answers) ≡ length told + length (left l.answers);
  room : length told + size l.script < 2 ^ 64;
  script_room : HasRoom l.script;
  answers_room : HasRoom l.answers;
}

abbrev pub decreases-loop-line : goal.decreases-loop-line
decreases-loop-line g l = size l.script
