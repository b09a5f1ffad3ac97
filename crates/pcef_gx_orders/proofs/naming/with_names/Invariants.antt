use Rattle.std.proofs.Common.{◌≡◌, ◌++◌}
use Rattle.pcef_gx_orders.proofs.naming.with_names.Given as goal

-- the orders so far, and the rest, are all
abbrev pub invariant-loop-order : goal.invariant-loop-order
invariant-loop-order l = l.named.items ++ l.order-iterator.rest.items ≡ l.fn.orders.items
