use Rattle.std.proofs.Common.{◌≡◌, ◌≤◌, ◌<◌, ◌+◌, ◌*◌, ℕ, length, drop}
use Rattle.std.specs.Prelude.{slice_index}
use Rattle.pcef_handover.specs.Counting.{with_items}
use Rattle.pcef_handover.proofs.counting.count_items.Given as goal

abbrev pub invariant-loop-item : goal.invariant-loop-item
invariant-loop-item g l = record {
  totals : with_items l.books.totals (drop l.item-index l.items) ≡ with_items l.initial.books.totals l.items;
  issued : l.books.issued ≡ l.initial.books.issued;
  shares : with_items l.shares (drop l.item-index l.items) ≡ with_items l.initial.shares l.items;
  ten : length l.books.totals ≡ 10;
  fits : (n : ℕ) → n < 8 → slice_index l.books.totals n ≤ slice_index l.initial.books.totals n + 4294967295 * l.item-index;
  rows : slice_index l.books.totals 8 ≡ slice_index l.initial.books.totals 8 + l.item-index;
}
