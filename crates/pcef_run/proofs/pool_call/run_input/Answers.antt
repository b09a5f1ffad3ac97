use Rattle.std.proofs.Common.{rules, ◌≡◌, inl, inr, length, subst}
use Rattle.std.specs.Prelude.{Ok, Err}
use Rattle.std.proofs.KnownBytes.{Keeps-refl}
use Rattle.pcef_run.specs.Orders.{ReadsOrders}
use Rattle.pcef_run.specs.PoolRuns.{AreFor}
use Rattle.pcef_run.proofs.OrderLines.{orders_known}
use Rattle.pcef_run.proofs.pool_call.run_input.Goals as goal

pub run_orders-requires : goal.run_orders-requires
run_orders-requires g c =
    let same : c.len.result ≡ length c.args.asked.items = search rules in
    subst (λ n. AreFor n c.in-Ok.orders.items) same (orders_known c.len.result c.in-Ok.orders _ _ c.in-Ok.ensures)

pub returns-in-Ok : goal.returns-in-Ok
returns-in-Ok g c =
    let remaining = g.R.Read.remaining in
    let same : c.len.result ≡ length c.args.asked.items = search rules in
    inl (
      c.in-Ok.orders,
      subst (λ n. ReadsOrders n (Ok c.in-Ok.orders) (remaining c.args.reader.now) (remaining c.read_orders.new.reader)) same c.in-Ok.ensures,
      c.run_orders.ensures,
    )

pub returns-in-Err : goal.returns-in-Err
returns-in-Err g c =
    let remaining = g.R.Read.remaining in
    let same : c.len.result ≡ length c.args.asked.items = search rules in
    inr (
      c.in-Err.fault,
      subst (λ n. ReadsOrders n (Err c.in-Err.fault) (remaining c.args.reader.now) (remaining c.read_orders.new.reader)) same c.in-Err.ensures,
      c.plan_end.ensures,
      Keeps-refl (g.W.Write.contents c.args.writer.now),
    )
