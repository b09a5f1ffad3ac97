use Rattle.std.proofs.Common.{◌+◌, List, drop, get_or, subst, sym}
use Rattle.pcef_rule.specs.declared.quantity.Slot.{Slot}
use Rattle.pcef_usage.specs.Keys.{CanCount}
use Rattle.pcef_usage.proofs.Rows.{fits_next, slot_end, slot_fits, slot_step}
use Rattle.pcef_usage.proofs.counted.count_for.Goals as goal

pub count-requires : goal.count-requires
count-requires c =
    let fits = slot_fits c.args.slots.now c.loop-slot.slot-index (record { 0 = 0 }) c.args.octets c.loop-slot.usage c.loop-slot-test.true c.loop-slot.invariant.fits in
    record { known = fits.0.0; fits = fits.1.0 }

pub loop-slot-preserved : goal.loop-slot-preserved
loop-slot-preserved c =
    let own : List Slot = c.args.slots.now in
    let i = c.loop-slot.slot-index in
    let fits = slot_fits own i (record { 0 = 0 }) c.args.octets c.loop-slot.usage c.loop-slot-test.true c.loop-slot.invariant.fits in
    record {
      fits = subst (CanCount (drop (i + 1) own) c.args.octets) (sym c.count.ensures)
          (fits_next (get_or own i (record { 0 = 0 })) (drop (i + 1) own) c.args.octets c.loop-slot.usage fits);
      states = slot_step own i (record { 0 = 0 }) c.args.octets c.loop-slot.usage _ _ c.loop-slot-test.true c.count.ensures c.loop-slot.invariant.states;
    }

pub returns : goal.returns
returns c = slot_end c.args.slots.now c.loop-slot.slot-index c.args.octets _ _ c.loop-slot-test.false c.loop-slot.invariant.states
