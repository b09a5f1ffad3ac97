use Rattle.std.proofs.Common.{◌≡◌, drop}
use Rattle.std.specs.List.{list_any}
use Rattle.pcef_gx_dialogue.specs.Stopping.{is_granted}
use Rattle.pcef_gx_dialogue.proofs.stopping.any_grants.Given as goal

-- none was found so far
abbrev pub invariant-loop-order : goal.invariant-loop-order
invariant-loop-order l = list_any (is_granted l.key) (drop l.order-index l.orders) ≡ list_any (is_granted l.key) l.orders
