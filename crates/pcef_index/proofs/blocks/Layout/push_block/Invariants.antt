use Rattle.std.proofs.Common.{◌≡◌, ◌≤◌, ◌<◌, ◌+◌, ◌^◌, length, vec_capacity}
use Rattle.pcef_index.specs.private.Blocks.{AscendTo}
use Rattle.pcef_index.proofs.blocks.Layout.push_block.Given as goal

abbrev pub invariant-loop-row : goal.invariant-loop-row
invariant-loop-row l = record {
  fits : l.here < 2 ^ 16;
  rows : l.self.rows ≡ l.fn.self.rows;
  long : length l.self.places.items ≡ length l.fn.self.places.items + l.row;
  room : length l.fn.self.places.items + l.self.rows ≤ vec_capacity l.self.places;
  placed : AscendTo l.fn.self.next l.fn.self.places.items → AscendTo l.here l.self.places.items;
}
