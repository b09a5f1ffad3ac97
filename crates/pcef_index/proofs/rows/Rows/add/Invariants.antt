use Rattle.std.proofs.Common.{◌≡◌, ◌<◌, ◌^◌, ℕ, take}
use Rattle.std.proofs.Common.{true}
use Rattle.pcef_filter.specs.Matching.{in_ranges}
use Rattle.pcef_index.specs.private.Rows.{AreRows, LetsNumber}
use Rattle.pcef_index.proofs.rows.Rows.add.Given as goal

abbrev pub invariant-loop-range : goal.invariant-loop-range
invariant-loop-range l = record {
  rows : AreRows l.spot.blocks l.self;
  keeps : (block n i : ℕ) → LetsNumber l.fn.self block n i → LetsNumber l.self block n i;
  sets : (n : ℕ) → n < 2 ^ 16 → in_ranges (take l.range-index l.ranges) n ≡ true → LetsNumber l.self l.spot.block n l.spot.bit;
}
