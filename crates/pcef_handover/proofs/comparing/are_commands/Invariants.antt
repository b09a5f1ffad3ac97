use Rattle.std.proofs.Common.{◌≡◌, ◌↔◌, drop}
use Rattle.pcef_handover.proofs.comparing.are_commands.Given as goal

abbrev pub invariant-loop-listed : goal.invariant-loop-listed
invariant-loop-listed l = (l.fn.list ≡ l.fn.commands) ↔ (drop l.listed-index l.fn.list ≡ l.commands)
