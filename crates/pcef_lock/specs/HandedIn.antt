-- What a worker that left hands in.
use Rattle.std.specs.Prelude.{ℕ, Bool, List, length}
use Rattle.pcef_session.specs.declared.batch.Item.{Item}
use Rattle.pcef_lock.specs.declared.leaving.Leaving.{Leaving}
use Rattle.pcef_lock.specs.declared.leaving.Leaving.TheVariants.{Abandoned, Finished}

-- the rows that a worker handed over by its own list, whether they are stored, and how many more can be added
pub record OwnList : Type 0 where
  pub items : List Item
  pub keeps : Bool
  pub room : ℕ

-- that a worker left: its number, and how
pub record DepartureModel : Type 0 where
  pub worker : ℕ
  pub leaving : Leaving

-- it handed these rows over as it left
abbrev pub finished_with : ℕ → List Item → DepartureModel
finished_with worker last = record { worker = worker; leaving = Finished (length last) }

-- it abandoned these rows as it left
abbrev pub abandoned_with : ℕ → List Item → DepartureModel
abandoned_with worker waiting = record { worker = worker; leaving = Abandoned (length waiting) }

-- its number, the rows that it handed over by its own list, whether these are stored, and how it left
pub record HandedIn : Type 0 where
  pub worker : ℕ
  pub items : List Item
  pub keeps : Bool
  pub leaving : Leaving

-- how many waiting rows a worker abandoned that left so
abbrev pub left_waiting : Leaving → ℕ
left_waiting (Finished rows) = 0
left_waiting (Abandoned rows) = rows

abbrev pub abandoned_by : HandedIn → ℕ
abandoned_by h = left_waiting h.leaving
