-- Rows that are judged by the tables that were seen.
use Rattle.std.specs.Prelude.{ℕ, ◌≡◌, ◌+◌, List, [], ◌∷◌, ◌++◌, All, length}
use Rattle.pcef_packet.specs.declared.header.Header.{Header}
use Rattle.pcef_packet.specs.declared.header.Addr.{Addr}
use Rattle.pcef_catalog.specs.declared.listing.Offer.{Offer}
use Rattle.pcef_table.specs.Tables.{TableValue}
use Rattle.pcef_table.specs.SessionSlots.{slots_counted}
use Rattle.pcef_table.specs.Verdicts.{IsVerdict}
use Rattle.pcef_flow.specs.Flows.{Flows, Remembers}
use Rattle.pcef_publish.specs.Lists.{EndsWith, IsSeen}
use Rattle.pcef_model.specs.Setting.{Setting}
use Rattle.pcef_session.specs.declared.batch.Item.{Item}

-- an item as the table judges it that was seen of its generation: its verdict, and the slots that it counts for
pub record IsJudgedBySeen (offers : List Offer) (ue : Addr) (first : ℕ) (seen : List TableValue) (i : Item) : Type 0 where
  pub table : TableValue
  pub there : IsSeen first seen i.row.generation table
  pub verdict_is : IsVerdict offers table.entries ue i.row.header i.row.verdict
  pub slots_are : i.slots.items ≡ slots_counted offers table i.row.verdict

abbrev pub AllJudged : Setting → ℕ → List TableValue → List Item → Type 0
AllJudged p first seen items = All (IsJudgedBySeen p.catalog p.ue first seen) items

-- the row of a packet, judged by the last table that was seen
pub record IsTaken (p : Setting) (first worker seq : ℕ) (seen : List TableValue) (header : Header) (i : Item) : Type 0 where
  pub judged : IsJudgedBySeen p.catalog p.ue first seen i
  pub newest : i.row.generation + 1 ≡ first + length seen
  pub header_is : i.row.header ≡ header
  pub worker_is : i.row.worker ≡ worker
  pub seq_is : i.row.seq ≡ seq

-- the row of a packet, judged by the last table that was seen, waits behind the others
pub record TakesRow (p : Setting) (first worker seq : ℕ) (seen : List TableValue) (header : Header) (old new : List Item) : Type 0 where
  pub item : Item
  pub taken : IsTaken p first worker seq seen header item
  pub after : new ≡ old ++ item ∷ []

-- a cache remembers flows of the table that was seen last
abbrev pub FollowsLast : Setting → List TableValue → Flows → Type 0
FollowsLast p seen flows = (t : TableValue) → EndsWith seen t → Remembers p.catalog t.entries p.ue flows
