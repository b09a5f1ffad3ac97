-- Rows of packets that were judged.
use Rattle.std.specs.Prelude.{ℕ, ◌≡◌, List, [], ◌∷◌, ◌++◌, Option, true}
use Rattle.pcef_packet.specs.declared.header.Addr.{Addr}
use Rattle.pcef_packet.specs.declared.header.Header.{Header}
use Rattle.pcef_packet.specs.Addresses.{is_assigned, ue_side}
use Rattle.pcef_rule.specs.declared.quantity.Slot.{Slot}
use Rattle.pcef_catalog.specs.declared.listing.Offer.{Offer}
use Rattle.pcef_model.specs.declared.verdict.Verdict.{Verdict}
use Rattle.pcef_table.specs.Tables.{TableValue}
use Rattle.pcef_table.specs.SessionSlots.{slots_counted}
use Rattle.pcef_table.specs.Verdicts.{IsPlaced, IsVerdict}
use Rattle.pcef_index.specs.Places.{IsFirstPlace}
use Rattle.pcef_session.specs.declared.batch.Item.{Item}
use Rattle.pcef_session.specs.declared.judging.RowId.{RowId}

-- the row of a packet is added, with this verdict and the slots that it counts for
pub record Adds (id : RowId) (header : Header) (verdict : Verdict) (counted : List Slot) (old new : List Item) : Type 0 where
  pub item : Item
  pub after : new ≡ old ++ item ∷ []
  pub row_is : item.row ≡ record { header = header; verdict = verdict; seq = id.seq; generation = id.generation; worker = id.worker }
  pub slots_are : item.slots.items ≡ counted

-- the row of a packet of the session is added as a table decides, where the entry at this place is the first that fits, or
-- where none does; and the place of the rule that decided, where one did
pub record AddsDecided (offers : List Offer) (t : TableValue) (place : Option ℕ) (id : RowId) (header : Header) (decided : Option ℕ) (old new : List Item) : Type 0 where
  pub verdict : Verdict
  pub added : Adds id header verdict (slots_counted offers t verdict) old new
  pub verdict_is : (ue : Addr) → is_assigned (ue_side header) ue ≡ true → IsFirstPlace offers t.entries ue header place → IsVerdict offers t.entries ue header verdict
  pub placed : IsPlaced offers t.entries verdict decided
