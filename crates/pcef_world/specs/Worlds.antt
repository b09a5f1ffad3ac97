-- What callers see of a world: a session, and its workers (own choice).
use Rattle.std.specs.Prelude.{ℕ, ◌≡◌, ◌≤◌, List, [], Option, Some, None, slice_get, true}
use Rattle.pcef_model.specs.declared.row.Row.{Row}
use Rattle.pcef_model.specs.Setting.{Setting}
use Rattle.pcef_model.specs.Entries.{Journal}
use Rattle.pcef_model.specs.Journals.{gen}
use Rattle.pcef_model.specs.Refusals.{is_attached}
use Rattle.pcef_session.specs.SessionModel.{SessionModel}
use Rattle.pcef_model.specs.Lawful.{BatchFollows}

-- a worker: the generation that it holds, and its rows that wait, the oldest first. Its number is its
-- place among the workers
pub record Waiting : Type 0 where
  pub generation : ℕ
  pub rows : List Row

-- a session, and a place for each worker that was ever attached: it holds the worker, or none where it left
pub record World : Type 0 where
  pub session : SessionModel
  pub workers : List (Option Waiting)

abbrev pub waiting_if_there : Option (Option Waiting) → Option Waiting
waiting_if_there None = None
waiting_if_there (Some place) = place

-- the worker of a number, if it is there
abbrev pub waiting_at : List (Option Waiting) → ℕ → Option Waiting
waiting_at workers number = waiting_if_there (slice_get workers number)

-- an attached worker that holds a generation of the journal, and whose rows may come next
pub record IsInTurn (p : Setting) (j : Journal) (number : ℕ) (w : Waiting) : Type 0 where
  pub attached : is_attached j number ≡ true
  pub known : w.generation ≤ gen j
  pub follow : BatchFollows p j number w.rows

abbrev pub AreInTurn : Setting → Journal → List (Option Waiting) → Type 0
AreInTurn p j workers = (number : ℕ) (w : Waiting) → waiting_at workers number ≡ Some w → IsInTurn p j number w

-- the workers of a world are so attached, and their rows may come next
abbrev pub HasWorkersInTurn : World → Type 0
HasWorkersInTurn w = AreInTurn w.session.setting w.session.journal w.workers

-- a world that was just opened: this is fixed for its session, its journal is empty, no worker was ever attached, and
-- nothing is forgotten
abbrev pub IsOpenedWorld : Setting → World → Type 0
IsOpenedWorld p w = (w.session.setting ≡ p) × (w.session.journal ≡ []) × (w.workers ≡ []) × (w.session.forgotten ≡ 0)
