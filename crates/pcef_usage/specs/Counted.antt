-- What callers see of a journal and its counters.
use Rattle.std.specs.Prelude.{ℕ, List}
use Rattle.pcef_model.specs.declared.entry.Entry.{Entry}
use Rattle.pcef_model.specs.declared.entry.Entry.TheVariants as entry
use Rattle.pcef_model.specs.Entries.{Journal}
use Rattle.pcef_usage.specs.declared.usage.KeyState.{KeyState}

-- the entries, the newest first, how many of the oldest reports are forgotten, the counters in slot order, and how many more
-- entries there is memory for
pub record Counted : Type 0 where
  pub journal : Journal
  pub forgotten : ℕ
  pub states : List KeyState
  pub room : ℕ

-- an entry that is neither a report nor a row: those go with the counters
abbrev pub IsEvent : Entry → Type 0
IsEvent (entry.Report r) = ⊥
IsEvent (entry.Row r) = ⊥
IsEvent _ = Unit {0}
