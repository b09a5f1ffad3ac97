use Rattle.std.specs.Prelude.{◌≡◌, ◌<◌, ◌≤◌, ℕ, length}
use Rattle.pcef_shards.specs.Ways.{led_to}
use Rattle.pcef_shards.proofs.feeding.lead_ends.Given as goal

abbrev pub invariant-loop-thread : goal.invariant-loop-thread
invariant-loop-thread g l = record {
  many : length l.lanes ≡ length l.initial.lanes;
  led : (t : ℕ) → l.thread ≤ t → t < length l.lanes → led_to l.lanes t ≡ led_to l.initial.lanes t;
}
