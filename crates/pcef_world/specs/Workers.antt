-- Workers, and what always holds of them.
use Rattle.std.specs.Prelude.{ℕ, ◌≡◌, ◌≤◌, ◌<◌, ◌+◌, List, [], ◌∷◌, ◌++◌, Option, Some, Result, Ok, Err, length, map, slice_get, true}
use Rattle.std.specs.Arc.{arc_value}
use Rattle.pcef_packet.specs.declared.header.Addr.{Addr}
use Rattle.pcef_packet.specs.declared.header.Header.{Header}
use Rattle.pcef_catalog.specs.declared.listing.Offer.{Offer}
use Rattle.pcef_table.specs.Tables.{TableValue}
use Rattle.pcef_table.specs.SessionSlots.{slots_counted}
use Rattle.pcef_table.specs.Verdicts.{IsPlaced, IsVerdict}
use Rattle.pcef_model.specs.Setting.{Setting}
use Rattle.pcef_model.specs.Entries.{Journal, lane}
use Rattle.pcef_model.specs.Journals.{gen, lane_len}
use Rattle.pcef_model.specs.Reports.{with_rows}
use Rattle.pcef_session.specs.declared.batch.BatchFull.{BatchFull}
use Rattle.pcef_session.specs.declared.batch.Item.{Item}
use Rattle.pcef_model.specs.Refusals.{is_attached}
use Rattle.pcef_world.specs.declared.worker.Taken.{Taken}
use Rattle.pcef_world.specs.declared.worker.WorldWorker.{WorldWorker}
use Rattle.pcef_session.specs.Following.{HasItsSlots, row_of}
use Rattle.pcef_model.specs.Lawful.{BatchFollows, newest_generation}
use Rattle.pcef_session.specs.Shown.{Shows}
use Rattle.pcef_world.specs.Worlds.{Waiting}

-- the table that a worker holds
abbrev pub held_by : WorldWorker → TableValue
held_by w = arc_value w.held

-- what callers see of a worker: the generation that it holds, and its rows that wait
abbrev pub seen : WorldWorker → Waiting
seen w = record { generation = (held_by w).number; rows = map row_of w.waiting }

-- ---- what a worker does
-- an item that a worker makes of a packet, where it has handed over `handed_over` rows
pub record IsJudged (offers : List Offer) (ue : Addr) (header : Header) (handed_over : ℕ) (w : WorldWorker) (i : Item) : Type 0 where
  pub worker_is : i.row.worker ≡ w.number
  pub seq_is : i.row.seq ≡ handed_over + length w.waiting
  pub generation_is : i.row.generation ≡ (held_by w).number
  pub header_is : i.row.header ≡ header
  pub verdict_is : IsVerdict offers (held_by w).entries ue header i.row.verdict
  pub slots_are : i.slots.items ≡ slots_counted offers (held_by w) i.row.verdict

abbrev pub with_item : Item → WorldWorker → WorldWorker
with_item i w = record w { waiting = w.waiting ++ i ∷ [] }

-- a packet that a worker takes waits as an item, where fewer than 32 do
abbrev pub TakesItem : List Offer → Addr → Header → ℕ → WorldWorker → Result ℕ BatchFull → WorldWorker → Type 0
TakesItem offers ue header handed_over old (Ok count) new =
    (length old.waiting < 32) × (count ≡ length old.waiting + 1) × (i : Item) × IsJudged offers ue header handed_over old i × (new ≡ with_item i old)
TakesItem offers ue header handed_over old (Err full) new = (32 ≤ length old.waiting) × (new ≡ old)

-- how many rows wait then
abbrev pub waiting_count : Result Taken BatchFull → Result ℕ BatchFull
waiting_count (Ok taken) = Ok taken.waiting
waiting_count (Err full) = Err full

-- the place of the rule that the row names which waits last
abbrev pub PlacesLast : List Offer → WorldWorker → Option ℕ → Type 0
PlacesLast offers w place =
    (before : List Item) × (i : Item) × (w.waiting ≡ before ++ i ∷ []) × IsPlaced offers (held_by w).entries i.row.verdict place

-- there is no memory for a packet that may wait
abbrev pub LacksForItem : WorldWorker → WorldWorker → Type 0
LacksForItem old new = (length old.waiting < 32) × (new ≡ old)

-- rows that are handed over wait no longer
abbrev pub after_flushing : {A E : Type 0} → Result A E → WorldWorker → WorldWorker
after_flushing (Ok a) w = record w { waiting = [] }
after_flushing (Err e) w = w

-- ---- what always holds of a worker
-- it has this number and holds a generation of the journal, and its rows may come next, with the
-- slots of the keys that they count for; none of them is of a later generation than it holds
pub record Waits (p : Setting) (j : Journal) (number : ℕ) (w : WorldWorker) : Type 0 where
  pub number_is : w.number ≡ number
  pub known : (held_by w).number ≤ gen j
  pub shows : Shows p j (held_by w).number (held_by w)
  pub follow : BatchFollows p j number (map row_of w.waiting)
  pub slots : HasItsSlots p j w.waiting
  pub attached : is_attached j number ≡ true
  pub few : lane_len j number ≤ p.rows
  pub not_older : newest_generation (lane (with_rows (map row_of w.waiting) j) number) ≤ (held_by w).number

-- the workers are numbered by their places
abbrev pub AllWait : Setting → Journal → List (Option WorldWorker) → Type 0
AllWait p j workers = (number : ℕ) (w : WorldWorker) → slice_get workers number ≡ Some (Some w) → Waits p j number w

-- its rows may come next
pub record MayHandOver (p : Setting) (j : Journal) (w : WorldWorker) : Type 0 where
  pub follow : BatchFollows p j w.number (map row_of w.waiting)
  pub slots : HasItsSlots p j w.waiting
