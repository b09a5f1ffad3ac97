-- Rows that come next in a worker's lane.
use Rattle.std.specs.Prelude.{ℕ, ◌==◌, ◌+◌, Bool, true, ◌&&◌, List, [], ◌∷◌, nat_le}
use Rattle.pcef_model.specs.declared.row.Row.{Row}
use Rattle.pcef_model.specs.Entries.{Journal, lane}
use Rattle.pcef_model.specs.Journals.{lane_len}
use Rattle.pcef_model.specs.Lawful.{newest_generation}
use Rattle.pcef_session.specs.declared.batch.Item.{Item}

-- a row that comes next in a lane of `rows` rows, the newest of them by `generation`
abbrev pub is_next : ℕ → ℕ → ℕ → Row → Bool
is_next worker rows generation r = (r.worker == worker) && ((r.seq == rows) && nat_le generation r.generation)

-- rows that come one after the other
unfoldable pub continues : ℕ → ℕ → ℕ → List Item → Bool
continues worker rows generation [] = true
continues worker rows generation (i ∷ items) =
    is_next worker rows generation i.row && continues worker (rows + 1) i.row.generation items

-- rows that continue the lane of a worker
abbrev pub continues_lane : Journal → ℕ → List Item → Bool
continues_lane j worker items = continues worker (lane_len j worker) (newest_generation (lane j worker)) items
