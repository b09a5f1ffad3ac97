use Rattle.std.proofs.Common.{◌≡◌, ◌≤◌, ◌+◌, ◌++◌, length, take}
use Rattle.pcef_worker.proofs.handing.keep_all.Given as goal

-- the rows so far are kept, and there is room for the rest
abbrev pub invariant-loop-item : goal.invariant-loop-item
invariant-loop-item l = record {
  items : l.rows.items ≡ l.initial.rows.items ++ take l.item-index l.items;
  keeps : l.rows.keeps ≡ l.initial.rows.keeps;
  left : length l.items ≤ l.rows.room + l.item-index;
}
