use Rattle.std.proofs.Common.{◌≡◌, ◌↔◌, drop, map}
use Rattle.pcef_session.specs.Following.{row_of}
use Rattle.pcef_handover.proofs.comparing.is_lane.Given as goal

abbrev pub invariant-loop-item : goal.invariant-loop-item
invariant-loop-item l = (map row_of l.fn.items ≡ l.fn.lane) ↔ (drop l.item-index (map row_of l.fn.items) ≡ l.lane)
