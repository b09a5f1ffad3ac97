use Rattle.std.proofs.Common.{◌≡◌, ◌≤◌, ◌+◌, length, map, drop}
use Rattle.pcef_model.specs.Reports.{with_rows}
use Rattle.pcef_usage.specs.Flushes.{rows_counted}
use Rattle.pcef_session.specs.private.TakenRows.{CanCountAll}
use Rattle.pcef_session.specs.Following.{row_of, row_slots}
use Rattle.pcef_session.proofs.rows.take_rows.Given as goal

abbrev pub invariant-loop-item : goal.invariant-loop-item
invariant-loop-item l = record {
  left : length l.items ≤ l.counted.room + l.item-index;
  fits : CanCountAll (drop l.item-index l.items) l.counted.states;
  journal : with_rows (map row_of (drop l.item-index l.items)) l.counted.journal ≡ with_rows (map row_of l.items) l.initial.counted.journal;
  states : rows_counted row_of row_slots (drop l.item-index l.items) l.counted.states ≡ rows_counted row_of row_slots l.items l.initial.counted.states;
  forgotten : l.counted.forgotten ≡ l.initial.counted.forgotten;
  room : l.initial.counted.room ≤ l.counted.room + l.item-index;
}
