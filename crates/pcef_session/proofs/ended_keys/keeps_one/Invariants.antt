use Rattle.std.proofs.Common.{◌≡◌, drop}
use Rattle.std.specs.List.{list_any}
use Rattle.std.specs.Option.{option_copied}
use Rattle.pcef_session.specs.private.Keys.{stays_with}
use Rattle.pcef_session.proofs.ended_keys.keeps_one.Given as goal

abbrev pub invariant-loop-entry : goal.invariant-loop-entry
invariant-loop-entry l =
    list_any (stays_with l.listing l.command (option_copied l.rule) l.key) (drop l.entry-index l.entries)
    ≡ list_any (stays_with l.listing l.command (option_copied l.rule) l.key) l.entries
