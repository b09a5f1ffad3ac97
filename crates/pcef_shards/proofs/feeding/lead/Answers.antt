use Rattle.std.proofs.Common.{◌≡◌, ◌∙◌, ◌<◌, ◌++◌, [], append-nil, ap, arith, length, subst, sym, take}
use Rattle.std.specs.Io.KnownBytes.{Consumes}
use Rattle.std.proofs.KnownBytes.{Consumes-trans}
use Rattle.pcef_shards.specs.Leading.{IfKnown, part_known}
use Rattle.pcef_shards.specs.Sorted.{waits}
use Rattle.pcef_shards.specs.Ways.{Begins, led_to}
use Rattle.pcef_shards.proofs.Ways.{led_sorted, so_far_begins, whole_begins, whole_is}
use Rattle.pcef_shards.proofs.feeding.lead.Goals as goal

pub lead_parts-requires : goal.lead_parts-requires
lead_parts-requires g c = λ t lt.
    let i = c.loop.invariant in
    let keys = c.args.sorting.now.picking.keys in
    let n = length c.args.lanes.now in
    let remaining = g.R.Read.remaining in
    let known = remaining c.args.reader.now in
    let got = c.in-Ok-eq0.ensures.bytes in
    let zero = c.in-Ok-eq0.field-0-test in
    let room : 0 < length c.read_some.new.block = omega (arith, i.room, c.read_some.ensures.room) in
    let none : take c.in-Ok-eq0.field-0 c.read_some.new.block ≡ [] = ap (λ m. take m c.read_some.new.block) zero in
    let all : Consumes known (remaining c.read_some.new.reader) i.input =
    subst (Consumes known (remaining c.read_some.new.reader)) (ap (λ x. i.input ++ x) none ∙ append-nil i.input) (Consumes-trans known (remaining c.loop.reader) (remaining c.read_some.new.reader) i.input _ i.read got.0) in
    let ended = c.in_ok-end-in-Ok-eq0.ensures keys n (led_to c.loop.lanes) i.input i.sorted in
    let front = led_to c.loop.lanes t ++ waits c.end.new.self t in
    subst (λ part. IfKnown (part t) (Begins front)) (sym c.requires.parts)
    (whole_begins (part_known keys n known t) front (whole_is keys n t known (remaining c.read_some.new.reader) i.input front all (got.1 zero room) (ended.parts_are t (omega (arith, lt, i.many)))))

pub lead_ends-requires : goal.lead_ends-requires
lead_ends-requires g c = λ t lt.
    let i = c.loop.invariant in
    let keys = c.args.sorting.now.picking.keys in
    let n = length c.args.lanes.now in
    let remaining = g.R.Read.remaining in
    let known = remaining c.args.reader.now in
    let got = c.in-Ok-eq0.ensures.bytes in
    let zero = c.in-Ok-eq0.field-0-test in
    let room : 0 < length c.read_some.new.block = omega (arith, i.room, c.read_some.ensures.room) in
    let none : take c.in-Ok-eq0.field-0 c.read_some.new.block ≡ [] = ap (λ m. take m c.read_some.new.block) zero in
    let all : Consumes known (remaining c.read_some.new.reader) i.input =
    subst (Consumes known (remaining c.read_some.new.reader)) (ap (λ x. i.input ++ x) none ∙ append-nil i.input) (Consumes-trans known (remaining c.loop.reader) (remaining c.read_some.new.reader) i.input _ i.read got.0) in
    let ended = c.in_ok-end-in-Ok-eq0.ensures keys n (led_to c.loop.lanes) i.input i.sorted in
    let inside : t < length c.loop.lanes = omega (arith, lt, c.lead_parts.ensures.many) in
    let front = led_to c.lead_parts.new.lanes t in
    subst (λ part. IfKnown (part t) (λ whole. whole ≡ front)) (sym c.requires.parts)
    (whole_is keys n t known (remaining c.read_some.new.reader) i.input front all (got.1 zero room)
    (c.in_ok-lead_parts-in-Ok-eq0.ensures.led.led t inside ∙ ended.parts_are t (omega (arith, inside, i.many))))

pub lead_parts-requires-in-Ok : goal.lead_parts-requires-in-Ok
lead_parts-requires-in-Ok g c = λ t lt.
    let i = c.loop.invariant in
    let keys = c.args.sorting.now.picking.keys in
    let n = length c.args.lanes.now in
    let remaining = g.R.Read.remaining in
    let known = remaining c.args.reader.now in
    let block = take c.in-Ok.n c.read_some.new.block in
    let on = c.in_ok-sort-in-Ok.ensures keys n (led_to c.loop.lanes) i.input i.sorted in
    let front = led_to c.loop.lanes t ++ waits c.sort.new.self t in
    subst (λ part. IfKnown (part t) (Begins front)) (sym c.requires.parts)
    (so_far_begins keys n t known (remaining c.read_some.new.reader) (i.input ++ block) front
    (Consumes-trans known (remaining c.loop.reader) (remaining c.read_some.new.reader) i.input block i.read c.in-Ok.ensures.bytes.0)
    (on.parts_are t (omega (arith, lt, i.many))))

pub loop-preserved : goal.loop-preserved
loop-preserved g c =
    let i = c.loop.invariant in
    let keys = c.args.sorting.now.picking.keys in
    let n = length c.args.lanes.now in
    let remaining = g.R.Read.remaining in
    let block = take c.in-Ok.n c.read_some.new.block in
    let led = c.in_ok-lead_parts-in-Ok.ensures in
    record {
      input = i.input ++ block;
      read = Consumes-trans (remaining c.args.reader.now) (remaining c.loop.reader) (remaining c.read_some.new.reader) i.input block i.read c.in-Ok.ensures.bytes.0;
      many = led.many ∙ i.many;
      sorted = led_sorted keys n (i.input ++ block) c.loop.lanes c.lead_parts-in-Ok.new.lanes c.sort.new.self c.lead_parts-in-Ok.new.sorting i.many led.led led.rest
          (c.in_ok-sort-in-Ok.ensures keys n (led_to c.loop.lanes) i.input i.sorted);
      room = c.read_some.ensures.room ∙ i.room;
    }
