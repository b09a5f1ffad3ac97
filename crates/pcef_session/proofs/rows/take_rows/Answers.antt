use Rattle.std.proofs.Common.{◌∙◌, arith, refl}
use Rattle.pcef_session.proofs.RowLoops.{counted_end, counted_step, fits_here, fits_later, taken_end, taken_step}
use Rattle.pcef_session.proofs.rows.take_rows.Goals as goal

pub take_row-requires-clause-fits : goal.take_row-requires-clause-fits
take_row-requires-clause-fits c =
    fits_here c.args.items.now c.loop-item.item-index c.item-item.result _ _ _ c.loop-item-test.true c.item-item.is refl c.as_slice.ensures.value c.loop-item.invariant.fits

pub take_row-requires-clause-room : goal.take_row-requires-clause-room
take_row-requires-clause-room c = omega (arith, c.loop-item.invariant.left)

pub loop-item-preserved : goal.loop-item-preserved
loop-item-preserved c = record {
  left = omega (arith, c.loop-item.invariant.left, c.take_row.ensures.room);
  fits = fits_later c.args.items.now c.loop-item.item-index c.item-item.result _ _ _ _ c.loop-item-test.true c.item-item.is refl c.as_slice.ensures.value c.take_row.ensures.states c.loop-item.invariant.fits;
  journal = taken_step c.args.items.now c.loop-item.item-index c.item-item.result _ _ _ _ c.loop-item-test.true c.item-item.is refl c.take_row.ensures.journal c.loop-item.invariant.journal;
  states = counted_step c.args.items.now c.loop-item.item-index c.item-item.result _ _ _ _ _ c.loop-item-test.true c.item-item.is refl c.as_slice.ensures.value c.take_row.ensures.states c.loop-item.invariant.states;
  forgotten = c.take_row.ensures.forgotten ∙ c.loop-item.invariant.forgotten;
  room = omega (arith, c.loop-item.invariant.room, c.take_row.ensures.room);
}

pub returns-clause-journal : goal.returns-clause-journal
returns-clause-journal c = taken_end c.args.items.now c.loop-item.item-index _ _ c.loop-item-test.false c.loop-item.invariant.journal

pub returns-clause-states : goal.returns-clause-states
returns-clause-states c = counted_end c.args.items.now c.loop-item.item-index _ _ c.loop-item-test.false c.loop-item.invariant.states

pub returns-clause-forgotten : goal.returns-clause-forgotten
returns-clause-forgotten c = c.loop-item.invariant.forgotten
