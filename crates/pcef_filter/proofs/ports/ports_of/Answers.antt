use Rattle.std.proofs.Common.{sym, ◌∙◌}
use Rattle.pcef_filter.proofs.ListLaws.{ports_bad, ports_full, ports_more, ports_done, is_eight, next_items, room_more}
use Rattle.pcef_filter.proofs.ports.ports_of.Goals as goal

pub returns-in_default-range_of : goal.returns-in_default-range_of
returns-in_default-range_of c =
    ports_bad _ _ _ _ _ _ c.loop-left.invariant.read c.in-Some.is c.cut.ensures.pieces (sym c.in_default-range_of.is ∙ c.range_of.ensures)

pub returns-then-is_full : goal.returns-then-is_full
returns-then-is_full c =
    ports_full _ _ _ _ _ _ _ c.loop-left.invariant.read c.in-Some.is c.cut.ensures.pieces (sym c.in-Some-range_of.is ∙ c.range_of.ensures)
    (is_eight _ _ c.is_full.ensures.value c.if-is_full.true)

pub loop-left-preserved : goal.loop-left-preserved
loop-left-preserved c = record {
  read = next_items _ _ _ _ _ c.push.ensures.items (ports_more _ _ _ _ _ _ _ c.loop-left.invariant.read c.in-Some.is c.cut.ensures.pieces (sym c.in-Some-range_of.is ∙ c.range_of.ensures));
  room = room_more _ _ _ _ c.push.ensures.items c.is_full.ensures.value c.if-is_full.false c.loop-left.invariant.room;
}

pub returns : goal.returns
returns c = ports_done _ _ _ c.loop-left.invariant.read c.in_default.is c.loop-left.invariant.room
