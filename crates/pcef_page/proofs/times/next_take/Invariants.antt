use Rattle.std.proofs.Common.{◌≡◌, ◌≤◌}
use Rattle.std.specs.Prelude.{filter}
use Rattle.pcef_page.specs.Times.{has_packet}
use Rattle.pcef_page.specs.private.Lines.{HasRoom, left, size}
use Rattle.pcef_page.proofs.times.next_take.Given as goal

-- the lines before take no packet
abbrev pub invariant-loop-line : goal.invariant-loop-line
invariant-loop-line l = record {
  left : filter has_packet (left l.fn.script) ≡ filter has_packet (left l.script);
  size : size l.script ≤ size l.fn.script;
  room : HasRoom l.script;
}

abbrev pub decreases-loop-line : goal.decreases-loop-line
decreases-loop-line l = size l.script
