use Rattle.std.proofs.Common.{◌≡◌, ◌<◌, ℕ, length, slice_index, slice_index_or}
use Rattle.pcef_page.specs.Guarantees.{bearers, down_of, up_of}
use Rattle.pcef_page.proofs.rates.ActiveRules.all_sums.Given as goal

abbrev pub invariant-loop-place : goal.invariant-loop-place
invariant-loop-place l = record {
  long : length l.all ≡ 11;
  sums : (k : ℕ) → k < l.place → slice_index_or l.all k (0, 0) ≡ (up_of l.self (slice_index bearers k), down_of l.self (slice_index bearers k));
}
