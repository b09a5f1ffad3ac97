use Rattle.std.proofs.Common.{◌∙◌}
use Rattle.pcef_gx_orders.proofs.Told.{item_at, stopped}
use Rattle.pcef_gx_orders.proofs.carrying.report_all.Goals as goal

pub returns-in_default : goal.returns-in_default
returns-in_default g c = record {
  fate =
      c.loop-key.invariant.0 c.for_key.result c.for_key.new.world.session.journal
      (rw (item_at c.args.keys.now c.loop-key.key-index c.key-item.result c.loop-key-test.true c.key-item.is)
      (stopped _ _ _ _ _ _ (rw (← c.loop-key.invariant.2, ← c.copy.ensures) c.for_key.ensures.fate) c.in_default.not-Done));
  workers = c.for_key.ensures.workers ∙ c.loop-key.invariant.1;
  setting = c.for_key.ensures.setting ∙ c.loop-key.invariant.2;
  forgotten = c.for_key.ensures.forgotten ∙ c.loop-key.invariant.3;
}
