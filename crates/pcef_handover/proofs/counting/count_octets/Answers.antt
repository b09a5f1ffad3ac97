use Rattle.std.proofs.Common.{◌∙◌, List, ap}
use Rattle.pcef_rule.specs.declared.quantity.Slot.{Slot}
use Rattle.pcef_share.specs.Amounts.{Account}
use Rattle.pcef_handover.proofs.Loops.{account_is, slots_end, slots_here, slots_step, takes_here, takes_later}
use Rattle.pcef_handover.proofs.counting.count_octets.Goals as goal

pub add-requires-in-loop-slot : goal.add-requires-in-loop-slot
add-requires-in-loop-slot g c =
    let own : List Slot = c.args.slots.now in
    let i = c.loop-slot.slot-index in
    record {
      slot = (slots_here own i (record { 0 = 0 }) c.loop-slot-test.true c.loop-slot.invariant.low).0;
      fits = takes_here own i (record { 0 = 0 }) c.args.octets c.loop-slot.books.totals c.loop-slot-test.true c.loop-slot.invariant.low c.loop-slot.invariant.takes;
    }

pub loop-slot-preserved : goal.loop-slot-preserved
loop-slot-preserved g c =
    let own : List Slot = c.args.slots.now in
    let i = c.loop-slot.slot-index in
    let d : Slot = record { 0 = 0 } in
    let totals_are = ap (λ (b : Account). b.totals) c.add-in-loop-slot.ensures.books in
    record {
      low = (slots_here own i d c.loop-slot-test.true c.loop-slot.invariant.low).2;
      takes = takes_later own i d c.args.octets c.loop-slot.books.totals _ c.loop-slot-test.true c.loop-slot.invariant.low totals_are c.loop-slot.invariant.takes;
      totals = slots_step own i d c.args.octets c.loop-slot.books.totals _ _ c.loop-slot-test.true totals_are c.loop-slot.invariant.totals;
      issued = ap (λ (b : Account). b.issued) c.add-in-loop-slot.ensures.books ∙ c.loop-slot.invariant.issued;
      shares = slots_step own i d c.args.octets _ _ _ c.loop-slot-test.true c.add-in-loop-slot.ensures.shares c.loop-slot.invariant.shares;
    }

pub returns : goal.returns
returns g c = record {
  books = account_is c.loop-slot.books _ _ (slots_end c.args.slots.now c.loop-slot.slot-index c.args.octets c.loop-slot.books.totals _ c.loop-slot-test.false c.loop-slot.invariant.totals) c.loop-slot.invariant.issued;
  shares = slots_end c.args.slots.now c.loop-slot.slot-index c.args.octets _ _ c.loop-slot-test.false c.loop-slot.invariant.shares;
}
