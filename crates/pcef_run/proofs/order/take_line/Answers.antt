use Rattle.std.proofs.Common.{◌∙◌, sym}
use Rattle.pcef_run.proofs.OrderLines.{blank_taken, order_added}
use Rattle.pcef_run.proofs.order.take_line.Goals as goal

pub returns-then-is_blank-clause-taken : goal.returns-then-is_blank-clause-taken
returns-then-is_blank-clause-taken c = λ lines are.
    blank_taken c.args.sessions lines c.args.bytes.now c.args.orders.now.items (sym c.is_blank.ensures ∙ c.if-is_blank.true) are

pub returns-in-Ok-clause-taken : goal.returns-in-Ok-clause-taken
returns-in-Ok-clause-taken c =
    order_added c.push_order.result c.args.sessions c.args.bytes.now c.args.orders.now.items c.push_order.new.orders.items c.in-Ok.order (sym c.is_blank.ensures ∙ c.if-is_blank.false) c.in-Ok.ensures.order
    c.push_order.ensures.pushed
