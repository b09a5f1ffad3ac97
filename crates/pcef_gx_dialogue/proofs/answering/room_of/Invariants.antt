use Rattle.std.proofs.Common.{◌≡◌, ◌≤◌, ◌+◌, length, drop}
use Rattle.std.specs.Prelude.{All, sum_by}
use Rattle.pcef_gx.specs.declared.order.Order.{Order}
use Rattle.pcef_gx_orders.specs.Naming.{name_given}
use Rattle.pcef_gx_dialogue.specs.Rars.{order_room}
use Rattle.pcef_gx_dialogue.proofs.answering.room_of.Given as goal

-- where the rest are short all are; the octets so far, and those of the rest, are those of all
abbrev pub invariant-loop-named : goal.invariant-loop-named
invariant-loop-named l =
    (All (λ (asked : Order). length (name_given asked) ≤ 65536) (drop l.named-index l.orders) → All (λ (asked : Order). length (name_given asked) ≤ 65536) l.orders)
    × (l.octets + sum_by order_room (drop l.named-index l.orders) ≡ sum_by order_room l.orders) × (l.octets ≤ 4100000)
