use Rattle.std.proofs.Common.{arith, refl}
use Rattle.pcef_table.proofs.Flags.{up_step}
use Rattle.pcef_table.proofs.session_slots.slots_up.Goals as goal

pub loop-up-preserved : goal.loop-up-preserved
loop-up-preserved c = record {
  slots = up_step c.args.flags.now c.loop-up.up-index _ _ _ _ _ (omega arith) c.loop-up.invariant.slots refl c.loop-up.invariant.place c.note.ensures.slots;
  place = omega arith;
  few = omega (arith, c.loop-up.invariant.few, c.note.ensures.few);
}
