use Rattle.std.proofs.Common.{take}
use Rattle.pcef_index.specs.private.Lines.{KeepFor, lines_from}
use Rattle.pcef_index.proofs.lines.lines_of.Given as goal

abbrev pub invariant-loop-place : goal.invariant-loop-place
invariant-loop-place l = record { kept : KeepFor l.own (lines_from 0 (take l.place l.sources)) l.lines.items }
