-- Archives that have all of a journal's rows and commands.
use Rattle.std.specs.Prelude.{ℕ, ◌≡◌, ◌+◌, Bool, List, [], ◌∷◌, Option, Some, None, length, min}
use Rattle.pcef_journaled.specs.Archived.{Archived}
use Rattle.pcef_journaled.specs.declared.state.JournaledState.TheInside.{Inside}
use Rattle.pcef_model.specs.declared.row.Row.{Row}
use Rattle.pcef_model.specs.declared.command.Command.{Command}
use Rattle.pcef_session.specs.declared.prepared.Prepared.{Prepared}
use Rattle.pcef_session.specs.declared.prepared.Prepared.TheVariants.{Changing, Unchanged}
use Rattle.pcef_session.specs.SessionModel.{SessionModel}
use Rattle.pcef_model.specs.Entries.{Journal, commands, rows}

-- the archive has each row and each command of a journal, in order
pub record Archives (j : Journal) (a : Archived) : Type 0 where
  pub rows_are : a.rows ≡ rows j
  pub commands_are : a.commands ≡ commands j

-- all is kept: the rows and the commands in the archive, and the reports in the session
pub record KeepsAll (s : Inside) : Type 0 where
  pub archives : Archives s.state.journal s.archive
  pub reports : s.state.forgotten ≡ 0

-- a session, and whether its rows are stored
pub record Journaled : Type 0 where
  pub session : SessionModel
  pub keeps : Bool

-- the session, with the room that session and archive both have
abbrev pub journaled_of : Inside → Journaled
journaled_of s = record {
  session = record s.state { room = record { entries = min s.state.room.entries s.archive.room; rules = s.state.room.rules } };
  keeps = s.archive.keeps;
}

-- rows, the oldest first, before rows that are the newest first
unfoldable pub rows_added : List Row → List Row → List Row
rows_added [] kept = kept
rows_added (r ∷ rs) kept = rows_added rs (r ∷ kept)

-- the command that was prepared, where it changes something
abbrev pub change_of : Prepared → Option Command
change_of (Changing change) = Some change.command
change_of (Unchanged name) = None

-- the entries that a prepared command may need, with the leaving of `attached` workers
abbrev pub entries_for : Prepared → ℕ → ℕ
entries_for (Changing change) attached = length change.reports.items + 9 + attached
entries_for (Unchanged name) attached = 0
