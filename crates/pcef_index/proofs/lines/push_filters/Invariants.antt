use Rattle.std.proofs.Common.{◌++◌, List, take}
use Rattle.pcef_index.specs.declared.lines.Line.{Line}
use Rattle.pcef_index.specs.private.Lines.{KeepFor, filter_lines}
use Rattle.pcef_index.proofs.lines.push_filters.Given as goal

abbrev pub invariant-loop-number : goal.invariant-loop-number
invariant-loop-number l = record {
  kept : (all : List Line) → KeepFor l.own all l.fn.lines.items → KeepFor l.own (all ++ filter_lines l.place (take l.number l.rule.filters)) l.lines.items;
}
