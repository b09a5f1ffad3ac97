-- Where the lanes of a session's workers end, read off its journal (own choice).
use Rattle.std.specs.Prelude.{ℕ, ◌≡◌, ◌+◌, ◌++◌, zero, suc, true, false, List, [], ◌∷◌, Option, slice_get, if◌then◌else◌}
use Rattle.pcef_model.specs.Entries.{Journal, lane}
use Rattle.pcef_model.specs.Journals.{attach_count, attached, lane_len}
use Rattle.pcef_model.specs.Lawful.{newest_generation}
use Rattle.pcef_model.specs.Refusals.{is_attached}
use Rattle.pcef_model.specs.declared.row.Row.{Row}
use Rattle.pcef_journal.specs.declared.lanes.LaneEnd.{LaneEnd}

-- how many rows a worker's lane has, the generation of the newest, and whether the worker is attached
abbrev pub lane_end : Journal → ℕ → LaneEnd
lane_end j worker = record {
  rows = lane_len j worker;
  newest_generation = newest_generation (lane j worker);
  attached = is_attached j worker;
}

-- the ends of the lanes of `n` workers, from this one on
abbrev pub ends_from : Journal → ℕ → ℕ → List LaneEnd
ends_from j worker zero = []
ends_from j worker (suc n) = lane_end j worker ∷ ends_from j (suc worker) n

-- the ends of the lanes of all workers that were ever attached, by their numbers
abbrev pub lane_ends : Journal → List LaneEnd
lane_ends j = ends_from j 0 (attach_count j)

-- ---- changes
-- a worker that was just attached
abbrev pub just_attached : LaneEnd
just_attached = record { rows = 0; newest_generation = 0; attached = true }

abbrev pub end_of : List LaneEnd → ℕ → Option LaneEnd
end_of ends worker = slice_get ends worker

abbrev pub left : LaneEnd → LaneEnd
left end = record end { attached = false }

abbrev pub lengthened : ℕ → ℕ → LaneEnd → LaneEnd
lengthened rows generation end = record end { rows = end.rows + rows; newest_generation = generation }

-- the generation of the newest of these rows, or this one where there are none
abbrev pub last_generation : ℕ → List Row → ℕ
last_generation generation [] = generation
last_generation generation (r ∷ rs) = last_generation r.generation rs

-- ---- agreement
-- the numbers of the workers that are attached, the highest first
abbrev pub present : ℕ → List LaneEnd → List ℕ
present worker [] = []
present worker (end ∷ ends) = present (suc worker) ends ++ (if end.attached then worker ∷ [] else [])

-- the lanes end where the journal says, and the same workers are attached
pub record LanesAgree (j : Journal) (lanes : List LaneEnd) : Type 0 where
  pub ends_are : lanes ≡ lane_ends j
  pub attached_are : attached j ≡ present 0 lanes
