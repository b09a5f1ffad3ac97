use Rattle.std.proofs.Common.{◌∙◌, arith}
use Rattle.pcef_journaled.proofs.Archived.{added_end, added_step}
use Rattle.pcef_journaled.proofs.rows.add_rows.Goals as goal

pub loop-item-preserved : goal.loop-item-preserved
loop-item-preserved c = record {
  left = omega (arith, c.loop-item.invariant.left, c.add_row.ensures.room);
  rows = added_step c.args.items.now c.loop-item.item-index c.item-item.result _ _ _ c.loop-item-test.true c.item-item.is c.add_row.ensures.rows c.loop-item.invariant.rows;
  keeps = c.add_row.ensures.keeps ∙ c.loop-item.invariant.keeps;
  commands = c.add_row.ensures.commands ∙ c.loop-item.invariant.commands;
}

pub returns-clause-rows : goal.returns-clause-rows
returns-clause-rows c = added_end c.args.items.now c.loop-item.item-index _ _ c.loop-item-test.false c.loop-item.invariant.rows

pub returns-clause-keeps : goal.returns-clause-keeps
returns-clause-keeps c = c.loop-item.invariant.keeps
