-- Rows that are taken over.
use Rattle.std.specs.Prelude.{ℕ, length, set, get_or}
use Rattle.pcef_journal.specs.declared.lanes.LaneEnd.{LaneEnd}
use Rattle.pcef_journal.specs.Lanes.{just_attached, last_generation, lengthened}
use Rattle.pcef_session.specs.Following.{row_of, row_slots}
use Rattle.std.specs.Prelude.{◌≡◌, Bool, List, [], ◌∷◌, map}
use Rattle.pcef_model.specs.declared.row.Row.{Row}
use Rattle.pcef_usage.specs.declared.usage.KeyState.{KeyState}
use Rattle.pcef_usage.specs.Counted.{Counted}
use Rattle.pcef_usage.specs.Flushes.{rows_counted}
use Rattle.pcef_usage.specs.Keys.{CanCount, with_octets}
use Rattle.pcef_usage.specs.PendingReports.{settled_states, threshold_reports, after_reports, appended}
use Rattle.pcef_model.specs.Reports.{with_rows}
use Rattle.pcef_session.specs.declared.batch.Item.{Item}
use Rattle.pcef_session.specs.Following.{row_of}

-- the octets of each row can be counted when its turn comes
abbrev pub CanCountAll : List Item → List KeyState → Type 0
CanCountAll [] states = Unit {0}
CanCountAll (i ∷ items) states =
    CanCount i.slots.items i.row.header.octets states × CanCountAll items (with_octets i.slots.items i.row.header.octets states)

-- rows are taken over: their octets are counted, and then the thresholds are reported
pub record IsTakenAll (subscribed : Bool) (items : List Item) (old new : Counted) : Type 0 where
  pub journal : new.journal ≡ appended (threshold_reports subscribed (rows_counted row_of row_slots items old.states))
      (settled_states subscribed (rows_counted row_of row_slots items old.states)) (with_rows (map row_of items) old.journal)
  pub states : new.states ≡ after_reports (threshold_reports subscribed (rows_counted row_of row_slots items old.states))
      (settled_states subscribed (rows_counted row_of row_slots items old.states))

abbrev pub IsTaken : Bool → List Item → Counted → Counted → Type 0
IsTaken subscribed [] old new = (new.journal ≡ old.journal) × (new.states ≡ old.states)
IsTaken subscribed (i ∷ items) old new = IsTakenAll subscribed (i ∷ items) old new

-- the lane of a worker grows by these rows
abbrev pub with_lane : ℕ → List Row → List LaneEnd → List LaneEnd
with_lane worker [] lanes = lanes
with_lane worker (r ∷ rs) lanes =
    set lanes worker (lengthened (length (r ∷ rs)) (last_generation r.generation rs) (get_or lanes worker just_attached))
