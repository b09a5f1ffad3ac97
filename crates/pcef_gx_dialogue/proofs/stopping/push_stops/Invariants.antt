use Rattle.std.proofs.Common.{◌≡◌, ◌++◌, drop, map}
use Rattle.pcef_gx.specs.declared.order.Order.TheVariants as order
use Rattle.pcef_gx_dialogue.proofs.stopping.push_stops.Given as goal

-- the orders so far, and those for the rest of the keys, are all of them
abbrev pub invariant-loop-key : goal.invariant-loop-key
invariant-loop-key l =
    l.orders.items ++ map order.Stop (drop l.key-index l.keys) ≡ l.initial.orders.items ++ map order.Stop l.keys
