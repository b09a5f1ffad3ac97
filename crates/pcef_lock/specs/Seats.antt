-- What contracts say of the seats of workers.
use Rattle.std.specs.Prelude.{ℕ, ◌≡◌, List}
use Rattle.pcef_model.specs.Journals.{gen}
use Rattle.pcef_model.specs.Setting.{Setting}
use Rattle.pcef_share.specs.Amounts.{zeros}
use Rattle.pcef_table.specs.Tables.{TableValue}
use Rattle.pcef_lock.specs.Locked.{Locked}
use Rattle.pcef_lock.specs.declared.seat.Seat.{Seat}

-- a worker's number
abbrev pub seat_number : {l : _} → Seat l → ℕ
seat_number s = s.worker

-- the seat of a worker that is attached: nothing is counted into its shares, and it has seen these
-- tables
abbrev pub IsNewSeat : {l : _} → Setting → List TableValue → Seat l → Type 0
IsNewSeat p tables s = (s.shares ≡ zeros) × (s.subscriber ≡ tables) × (s.ue ≡ p.ue)

-- a seat has seen all tables, and this is the newest generation
abbrev pub HasSeenAll : {l : _} → Locked → Seat l → ℕ → Type 0
HasSeenAll v s generation = (s.subscriber ≡ v.tables) × (generation ≡ gen v.session.journal)

-- a seat is as before but for its shares
abbrev pub ChangesOnlyShares : {l : _} → Seat l → Seat l → Type 0
ChangesOnlyShares old new = (new.worker ≡ old.worker) × (new.subscriber ≡ old.subscriber) × (new.ue ≡ old.ue)

-- a seat is as before but for the tables that it has seen
abbrev pub ChangesOnlySubscriber : {l : _} → Seat l → Seat l → Type 0
ChangesOnlySubscriber old new = (new.worker ≡ old.worker) × (new.shares ≡ old.shares) × (new.ue ≡ old.ue)
