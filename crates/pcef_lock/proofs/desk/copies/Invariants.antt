use Rattle.std.proofs.Common.{◌≡◌, ◌++◌}
use Rattle.pcef_lock.proofs.desk.copies.Given as goal

abbrev pub invariant-loop-command : goal.invariant-loop-command
invariant-loop-command l = l.list.items ++ l.command-iterator ≡ l.fn.commands
