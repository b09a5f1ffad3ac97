-- Rows of packets that the entry at a place decides.
use Rattle.std.proofs.Common.{◌≡◌, ◌∙◌, ℕ, List, Some, ap, false, sym, subst, true}
use Rattle.std.specs.Prelude.{Option, slice_get, if◌then◌else◌}
use Rattle.std.specs.Option.{option_and_then, option_map}
use Rattle.pcef_packet.specs.declared.header.Dir.{Dir}
use Rattle.pcef_packet.specs.declared.header.Header.{Header}
use Rattle.pcef_rule.specs.declared.quantity.Slot.{Slot}
use Rattle.pcef_rule.specs.declared.rule.Properties.{Properties}
use Rattle.pcef_rule.specs.Gate.{opens}
use Rattle.pcef_catalog.specs.declared.listing.Offer.{Offer}
use Rattle.pcef_model.specs.declared.verdict.Verdict.{Verdict}
use Rattle.pcef_model.specs.declared.verdict.Verdict.TheVariants.{Gated, Passed}
use Rattle.pcef_table.specs.declared.entry.TableEntry.{TableEntry}
use Rattle.pcef_table.specs.SessionSlots.{slots_counted}
use Rattle.pcef_table.specs.Sources.{properties_of}
use Rattle.pcef_table.specs.Tables.{IsTable, TableValue}
use Rattle.pcef_table.specs.Verdicts.{gate_verdict, verdict_by}
use Rattle.pcef_table.proofs.Decided.{entry_decides, entry_is_placed}
use Rattle.pcef_index.proofs.Places.{got_is_there}
use Rattle.pcef_session.specs.declared.batch.Item.{Item}
use Rattle.pcef_session.specs.declared.judging.RowId.{RowId}
use Rattle.pcef_session.specs.Deciding.{Adds, AddsDecided}

by_gate : (offers : List Offer) (e : TableEntry) (p : Properties) (dir : Dir) → properties_of offers e.source ≡ Some p → verdict_by offers dir e ≡ Some (gate_verdict p e.bearer dir)
by_gate offers e p dir known = ap (option_map (λ (q : Properties). gate_verdict q e.bearer dir)) known

-- a closed gate gates the packet
pub gated_by : (offers : List Offer) (e : TableEntry) (p : Properties) (dir : Dir) → properties_of offers e.source ≡ Some p → opens p.gate dir ≡ false → verdict_by offers dir e ≡ Some (Gated p.name)
gated_by offers e p dir known closed = by_gate offers e p dir known ∙ ap (λ opens_. Some (if opens_ then Passed p.name e.bearer else Gated p.name)) closed

-- an open gate lets it pass
pub passed_by : (offers : List Offer) (e : TableEntry) (p : Properties) (dir : Dir) → properties_of offers e.source ≡ Some p → opens p.gate dir ≡ true → verdict_by offers dir e ≡ Some (Passed p.name e.bearer)
passed_by offers e p dir known opening = by_gate offers e p dir known ∙ ap (λ opens_. Some (if opens_ then Passed p.name e.bearer else Gated p.name)) opening

-- the row is added as the entry decides
pub adds_decided : (offers : List Offer) (t : TableValue) (e : TableEntry) (place : Option ℕ) (there : ℕ) (id : RowId) (header : Header) (verdict : Verdict) (slots : List Slot) (old new : List Item) → IsTable offers t.entries → slice_get t.entries there ≡ Some e → option_and_then (λ n. slice_get t.entries n) place ≡ Some e → verdict_by offers header.dir e ≡ Some verdict → slots ≡ slots_counted offers t verdict → Adds id header verdict slots old new → AddsDecided offers t place id header (Some there) old new
adds_decided offers t e place there id header verdict slots old new table stands found by counted added = record {
  verdict = verdict;
  added = subst (λ (xs : List Slot). Adds id header verdict xs old new) counted added;
  verdict_is = λ ue own first. entry_decides offers t.entries ue header e verdict own table.ordered (sym first ∙ found) by;
  placed = entry_is_placed offers t.entries e header.dir verdict there table.names (got_is_there t.entries there e stands) stands by;
}
