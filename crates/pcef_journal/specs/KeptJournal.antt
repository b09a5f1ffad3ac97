-- What callers see of a journal that is kept.
use Rattle.std.specs.Prelude.{ℕ, List}
use Rattle.pcef_model.specs.declared.entry.Entry.{Entry}

-- the entries, the newest first, how many of the oldest reports are forgotten, and how many more entries there is memory for
pub record KeptJournal : Type 0 where
  pub entries : List Entry
  pub forgotten : ℕ
  pub room : ℕ
