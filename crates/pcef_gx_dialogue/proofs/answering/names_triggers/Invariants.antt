use Rattle.std.proofs.Common.{◌≡◌, drop}
use Rattle.std.specs.List.{list_any}
use Rattle.pcef_gx_dialogue.specs.Rars.{is_triggers}
use Rattle.pcef_gx_dialogue.proofs.answering.names_triggers.Given as goal

-- none was found so far
abbrev pub invariant-loop-order : goal.invariant-loop-order
invariant-loop-order l = list_any is_triggers (drop l.order-index l.orders) ≡ list_any is_triggers l.orders
