use Rattle.std.specs.Prelude.{◌≡◌, ◌++◌, ◌<◌, ℕ, [], length}
use Rattle.pcef_shards.specs.Sorted.{Stays, waits}
use Rattle.pcef_shards.specs.Ways.{led_to}
use Rattle.pcef_shards.proofs.feeding.lead_parts.Given as goal

abbrev pub invariant-loop-thread : goal.invariant-loop-thread
invariant-loop-thread g l = record {
  many : length l.lanes ≡ length l.initial.lanes;
  stays : Stays l.initial.sorting l.sorting;
  led : (t : ℕ) → t < length l.lanes → led_to l.lanes t ++ waits l.sorting t ≡ led_to l.initial.lanes t ++ waits l.initial.sorting t;
  none : (t : ℕ) → t < l.thread → waits l.sorting t ≡ [];
}
