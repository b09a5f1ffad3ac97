use Rattle.std.proofs.Common.{◌≡◌, drop}
use Rattle.pcef_session.specs.private.Keys.{has_key, some_entry}
use Rattle.pcef_session.proofs.ended_keys.has_key.Given as goal

abbrev pub invariant-loop-entry : goal.invariant-loop-entry
invariant-loop-entry l = some_entry l.listing (has_key l.key) (drop l.entry-index l.entries) ≡ some_entry l.listing (has_key l.key) l.entries
