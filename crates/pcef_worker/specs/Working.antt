-- What contracts see of a worker (own choice).
use Rattle.std.specs.Prelude.{ℕ, ◌≡◌, ◌+◌, Bool, List, [], ◌∷◌, ◌++◌, length}
use Rattle.pcef_packet.specs.declared.header.Header.{Header}
use Rattle.pcef_table.specs.Tables.{TableValue}
use Rattle.pcef_model.specs.Setting.{Setting}
use Rattle.pcef_session.specs.declared.batch.Item.{Item}
use Rattle.pcef_lock.specs.HandedIn.{HandedIn}
use Rattle.pcef_lock.specs.declared.leaving.Leaving.TheVariants.{Abandoned, Finished}
use Rattle.pcef_lock.specs.Judging.{IsTaken}

-- its number, the tables that it has seen, of which it holds the last, the rows that wait, and the rows that it
-- handed over, each in the order in which they were taken; and whether the latter are stored
pub record WorkerModel : Type 0 where
  pub worker : ℕ
  pub seen : List TableValue
  pub waiting : List Item
  pub rows : List Item
  pub keeps : Bool

-- a packet is judged by the table that is held, and its row waits; the rows of a worker are numbered from 0 on
pub record JudgesPacket (p : Setting) (first : ℕ) (header : Header) (old new : WorkerModel) : Type 0 where
  pub item : Item
  pub taken : IsTaken p first old.worker (length old.rows + length old.waiting) old.seen header item
  pub after : new ≡ record old { waiting = old.waiting ++ item ∷ [] }

-- all that waits was handed over
abbrev pub flushed : WorkerModel → WorkerModel
flushed w = record w { waiting = []; rows = w.rows ++ w.waiting }

-- what a worker that finished hands in: its last rows were handed over as it left
abbrev pub finished_hand_in : WorkerModel → HandedIn
finished_hand_in w = record { worker = w.worker; items = w.rows ++ w.waiting; keeps = w.keeps; leaving = Finished (length w.waiting) }

-- what a worker that left with rows waiting hands in
abbrev pub abandoned : WorkerModel → HandedIn
abandoned w = record { worker = w.worker; items = w.rows; keeps = w.keeps; leaving = Abandoned (length w.waiting) }
