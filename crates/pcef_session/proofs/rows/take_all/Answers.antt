use Rattle.std.proofs.Common.{◌∙◌, ap, arith, length, List}
use Rattle.pcef_usage.specs.declared.usage.KeyState.{KeyState}
use Rattle.pcef_usage.proofs.Flushed.{length-rows_counted}
use Rattle.pcef_session.specs.Following.{row_of, row_slots}
use Rattle.pcef_session.proofs.rows.take_all.Goals as goal

pub report_thresholds-requires : goal.report_thresholds-requires
report_thresholds-requires c =
    let same = ap (λ (states : List KeyState). length states) c.take_rows.ensures.states ∙ length-rows_counted row_of row_slots c.args.items.now c.args.counted.now.states in
    omega (arith, same, c.take_rows.ensures.room, c.requires.room, c.requires.few)

pub returns-clause-room : goal.returns-clause-room
returns-clause-room c =
    let same = ap (λ (states : List KeyState). length states) c.take_rows.ensures.states ∙ length-rows_counted row_of row_slots c.args.items.now c.args.counted.now.states in
    omega (arith, same, c.take_rows.ensures.room, c.report_thresholds.ensures.room, c.requires.few)
