use Rattle.std.proofs.Common.{◌≡◌, ◌≤◌, ◌+◌, length, map, drop}
use Rattle.pcef_session.specs.Following.{row_of}
use Rattle.pcef_journaled.specs.Archiving.{rows_added}
use Rattle.pcef_journaled.proofs.rows.add_rows.Given as goal

abbrev pub invariant-loop-item : goal.invariant-loop-item
invariant-loop-item l = record {
  left : length l.items ≤ l.archive.room + l.item-index;
  rows : rows_added (map row_of (drop l.item-index l.items)) l.archive.rows ≡ rows_added (map row_of l.items) l.initial.archive.rows;
  keeps : l.archive.keeps ≡ l.initial.archive.keeps;
  commands : l.archive.commands ≡ l.initial.archive.commands;
}
