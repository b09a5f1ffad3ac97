use Rattle.std.proofs.Common.{◌≡◌, ◌++◌, take}
use Rattle.std.specs.Option.{option_copied}
use Rattle.pcef_usage.specs.Commands.{usage_of}
use Rattle.pcef_session.specs.private.Keys.{end_cause, is_ended}
use Rattle.pcef_session.proofs.ended_keys.add_ended_keys.Given as goal

abbrev pub invariant-loop-state : goal.invariant-loop-state
invariant-loop-state l =
    l.reports.items ≡ l.initial.reports.items ++ usage_of (end_cause l.command) (is_ended l.listing l.entries l.command (option_copied l.rule)) (take l.state-index l.states)
