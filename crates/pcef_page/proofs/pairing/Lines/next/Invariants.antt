use Rattle.std.proofs.Common.{◌≡◌, ◌≤◌}
use Rattle.pcef_page.specs.private.Lines.{HasRoom, left, size}
use Rattle.pcef_page.proofs.pairing.Lines.next.Given as goal

-- the lines before were blank
abbrev pub invariant-loop-line : goal.invariant-loop-line
invariant-loop-line l = record {
  left : left l.fn.self ≡ left l.self;
  size : size l.self ≤ size l.fn.self;
  room : HasRoom l.self;
}

abbrev pub decreases-loop-line : goal.decreases-loop-line
decreases-loop-line l = size l.self
