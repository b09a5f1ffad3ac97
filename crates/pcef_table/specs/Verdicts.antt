-- What a generation decides of a packet (TS 23.203, clause 6.2.2).
use Rattle.std.specs.Prelude.{ℕ, ◌≡◌, ◌⊎◌, true, false, List, Option, Some, None, All, Contains, find, slice_get, if◌then◌else◌}
use Rattle.std.specs.Option.{option_and_then, option_map, option_map_or}
use Rattle.pcef_packet.specs.declared.header.Addr.{Addr}
use Rattle.pcef_packet.specs.declared.header.Dir.{Dir}
use Rattle.pcef_packet.specs.declared.header.Header.{Header}
use Rattle.pcef_packet.specs.Addresses.{is_assigned, ue_side}
use Rattle.pcef_rule.specs.declared.quantity.BearerId.{BearerId}
use Rattle.pcef_rule.specs.declared.quantity.Slot.{Slot}
use Rattle.pcef_rule.specs.declared.rule.Properties.{Properties}
use Rattle.pcef_rule.specs.Gate.{opens}
use Rattle.pcef_catalog.specs.declared.listing.Offer.{Offer}
use Rattle.pcef_table.specs.declared.entry.TableEntry.{TableEntry}
use Rattle.pcef_model.specs.declared.verdict.Verdict.{Verdict}
use Rattle.pcef_model.specs.declared.verdict.Verdict.TheVariants.{Stray, Unmatched, Gated, Passed}
use Rattle.pcef_table.specs.Sources.{source_fits, source_is_named, properties_of}
use Rattle.pcef_table.specs.Tables.{GoesBefore}

-- the one entry that fits and goes before every other entry that fits, and its rule's properties
pub record IsDecisive (offers : List Offer) (entries : List TableEntry) (ue : Addr) (header : Header) (e : TableEntry) (p : Properties) : Type 0 where
  pub there : Contains entries e
  pub properties_are : properties_of offers e.source ≡ Some p
  pub fitting : source_fits offers ue header e.source ≡ true
  pub first : All (λ f. source_fits offers ue header f.source ≡ true → (f ≡ e) ⊎ GoesBefore offers e f) entries

-- what the gate of a rule decides of a packet of this direction
abbrev pub gate_verdict : Properties → BearerId → Dir → Verdict
gate_verdict p bearer dir = if opens p.gate dir then Passed p.name bearer else Gated p.name

-- a packet whose user equipment's side isn't the session's address is a stray (own choice); one that
-- no rule fits is unmatched, and the gateway discards it; else the decisive entry's gate decides
abbrev pub IsVerdict : List Offer → List TableEntry → Addr → Header → Verdict → Type 0
IsVerdict offers entries ue header Stray = is_assigned (ue_side header) ue ≡ false
IsVerdict offers entries ue header Unmatched =
    (is_assigned (ue_side header) ue ≡ true) × All (λ e. source_fits offers ue header e.source ≡ false) entries
IsVerdict offers entries ue header (Gated rule) =
    (is_assigned (ue_side header) ue ≡ true) × (e : TableEntry) × (p : Properties)
    × IsDecisive offers entries ue header e p × (opens p.gate header.dir ≡ false) × (rule ≡ p.name)
IsVerdict offers entries ue header (Passed rule bearer) =
    (is_assigned (ue_side header) ue ≡ true) × (e : TableEntry) × (p : Properties)
    × IsDecisive offers entries ue header e p × (opens p.gate header.dir ≡ true) × (rule ≡ p.name) × (bearer ≡ e.bearer)

-- the place of the entry of a name; no two entries of a table have one name
abbrev pub IsPlaceOf : List Offer → List TableEntry → List ℕ → Option ℕ → Type 0
IsPlaceOf offers entries name place =
    option_and_then (λ n. slice_get entries n) place ≡ find (λ e. source_is_named offers name e.source) entries

-- the place of the entry whose rule a verdict names
abbrev pub IsPlaced : List Offer → List TableEntry → Verdict → Option ℕ → Type 0
IsPlaced offers entries (Passed rule bearer) place = IsPlaceOf offers entries rule place
IsPlaced offers entries (Gated rule) place = IsPlaceOf offers entries rule place
IsPlaced offers entries other place = place ≡ None

abbrev pub counted_slot : TableEntry → Option Slot
counted_slot e = if e.counted then e.slot else None

-- what the gate of an entry's rule decides of a packet of this direction
abbrev pub verdict_by : List Offer → Dir → TableEntry → Option Verdict
verdict_by offers dir e = option_map (λ p. gate_verdict p e.bearer dir) (properties_of offers e.source)

-- the slot that a packet counts for, where this entry decided so
abbrev pub slot_by : TableEntry → Verdict → Option Slot
slot_by e (Passed rule bearer) = counted_slot e
slot_by e _ = None

-- the slot that a packet with this verdict counts for: that of the rule that let it pass, where the
-- slot is counted
abbrev pub slot_for : List Offer → List TableEntry → Verdict → Option Slot
slot_for offers entries (Passed rule bearer) = option_map_or counted_slot (find (λ e. source_is_named offers rule e.source) entries) None
slot_for offers entries _ = None
