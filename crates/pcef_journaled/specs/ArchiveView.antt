-- An archive, whose rows are stored or not.
use Rattle.std.specs.Prelude.{ℕ, ◌≡◌, Option, Some, None, is_some, min, reverse}
use Rattle.std.specs.Option.{IfSome}
use Rattle.pcef_journaled.specs.Archived.{Archived, Stored}
use Rattle.pcef_journaled.specs.StoreView.{free}
use Rattle.pcef_journaled.specs.declared.archive.Archive.TheInside.{Inside}

-- rows that aren't stored take no room
abbrev pub room_for_rows : Option Stored → ℕ → ℕ
room_for_rows None room = room
room_for_rows (Some s) room = min room s.room

abbrev pub archived_of : Inside → Archived
archived_of a = record {
  rows = a.rows.items;
  commands = reverse a.commands.items;
  keeps = is_some a.store;
  room = room_for_rows a.store (free a.commands);
}

-- the rows that are stored are all that came
abbrev pub StoresAll : Inside → Type 0
StoresAll a = IfSome a.store (λ s. s.rows ≡ a.rows.items)
