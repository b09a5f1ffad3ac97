-- Where the steps of each high octet begin, added one after the other.
use Rattle.std.proofs.Common.{◌≡◌, ℕ, List, length, arith}
use Rattle.pcef_index.specs.private.Blocks.{AscendTo}
use Rattle.pcef_index.specs.private.Starts.{ArePlaced}

pub placed_by : (starts ports : List ℕ) → AscendTo (length ports) starts → length starts ≡ 257 → ArePlaced starts ports
placed_by starts ports a full = record {
  full = full;
  ordered = λ h k order within. a.ordered h k order (omega (arith, within, full));
  within = λ h within. a.below h (omega (arith, within, full));
}
