use Rattle.std.proofs.Common.{◌≡◌, ◌++◌, All, map, string_bytes, take}
use Rattle.pcef_renewal_lines.specs.Commands.{ReadsBack, line_text}
use Rattle.pcef_renewal_lines.proofs.lines.push_lines.Given as goal

abbrev pub invariant-loop-command : goal.invariant-loop-command
invariant-loop-command l = record {
  readable : All ReadsBack (take l.command-index l.list);
  written : map string_bytes l.lines.items ≡ map string_bytes l.fn.lines.items ++ map line_text (take l.command-index l.list);
}
