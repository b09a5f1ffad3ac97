use Rattle.std.proofs.Common.{◌≡◌, ◌++◌, ℕ, List, Some, length}
use Rattle.std.specs.Prelude.{filter, map}
use Rattle.std.specs.List.{zip}
use Rattle.pcef_page.specs.Pairing.{filled}
use Rattle.pcef_page.specs.Times.{HaveTimes, has_packet, stamp_of_pair, takes}
use Rattle.pcef_page.specs.private.Lines.{HasRoom, left, size}
use Rattle.pcef_page.proofs.times.read_times.Given as goal

-- the packets so far have their times
abbrev pub invariant-loop-stamps : goal.invariant-loop-stamps
invariant-loop-stamps l = record {
  taken : List (ℕ × List ℕ);
  timed : List (ℕ × List ℕ);
  takes : takes l.fn.lines ≡ taken ++ filter has_packet (left l.script);
  times : filled l.fn.times ≡ timed ++ left l.times;
  same : length taken ≡ length timed;
  stamps : map Some l.stamps.items ≡ map stamp_of_pair (zip taken timed);
  have : HaveTimes (zip taken timed);
  script_room : HasRoom l.script;
  times_room : HasRoom l.times;
}

abbrev pub decreases-loop-stamps : goal.decreases-loop-stamps
decreases-loop-stamps l = size l.script
