use Rattle.std.proofs.Common.{subst}
use Rattle.std.specs.Prelude.{IfErr, IfOk}
use Rattle.pcef_script.specs.Scripts.{all_lines}
use Rattle.pcef_run.specs.Orders.{AreOrdered, FailsInOrders}
use Rattle.pcef_run.proofs.OrderLines.{input_ordered}
use Rattle.pcef_run.proofs.orders.read_orders.Goals as goal

pub returns : goal.returns
returns g c =
    let same = c.deref.ensures.value in
    let result = c.orders_of.result in
    input_ordered c.args.sessions result c.in_ok-input.input.items _ _ c.in_ok-input.ensures.all
    (subst (λ b. IfOk result (λ v. AreOrdered c.args.sessions (all_lines b) v.items)) same c.orders_of.ensures.orders)
    (subst (λ b. IfErr result (λ e. FailsInOrders c.args.sessions (all_lines b) e)) same c.orders_of.ensures.fault)
