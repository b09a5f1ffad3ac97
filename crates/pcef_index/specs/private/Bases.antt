-- Bases: rules that were looked up before, and where they stand among the rules of a table.
use Rattle.std.specs.Prelude.{ℕ, ◌≡◌, ◌<◌, ◌≤◌, ◌&&◌, ◌⊎◌, Bool, true, false, List, Option, Some, None, get_or, length, slice_get}
use Rattle.std.specs.Option.{option_map_or}
use Rattle.std.specs.Arc.{arc_value}
use Rattle.pcef_packet.specs.declared.header.Addr.{Addr}
use Rattle.pcef_packet.specs.declared.header.Header.{Header}
use Rattle.pcef_catalog.specs.declared.listing.Offer.{Offer}
use Rattle.pcef_table.specs.declared.entry.Source.{Source}
use Rattle.pcef_table.specs.Sources.{source_fits}
use Rattle.pcef_index.specs.declared.part.Part.{Part}
use Rattle.pcef_index.specs.private.Lines.{stands}

-- a place is the first that passes a test, or none passes
abbrev pub IsFirstOf : (ℕ → Bool) → Option ℕ → Type 0
IsFirstOf passes None = (k : ℕ) → passes k ≡ false
IsFirstOf passes (Some place) = (passes place ≡ true) × ((k : ℕ) → k < place → passes k ≡ false)

-- the rule at a place is there, and fits a packet
abbrev pub fits_at : List Offer → Addr → Header → List Source → ℕ → Bool
fits_at offers ue h sources k = option_map_or (source_fits offers ue h) (slice_get sources k) false

-- rule k of a base fits a packet, and stands at a place
abbrev pub stands_and_fits : List (Option ℕ) → List Offer → Addr → Header → List Source → ℕ → Bool
stands_and_fits places offers ue h base k = fits_at offers ue h base k && stands places k

-- where rule b of a part's base stands
abbrev pub place_in : Part → ℕ → Option ℕ
place_in p b = get_or p.places.items b None

-- a rule of the part's base stands at place k
abbrev pub HasPlace : Part → ℕ → Type 0
HasPlace p k = (b : ℕ) × (place_in p b ≡ Some k)

-- a base's rules stand in their order at the places of rules that are equal to them
pub record IsPart (sources : List Source) (p : Part) : Type 0 where
  pub within : (b k : ℕ) → place_in p b ≡ Some k → k < length sources
  pub same : (b k : ℕ) → place_in p b ≡ Some k → slice_get (arc_value p.base).sources b ≡ slice_get sources k
  pub ordered : (b c j k : ℕ) → b < c → place_in p b ≡ Some j → place_in p c ≡ Some k → j < k

-- the numbers below one, in order
pub record AreBelow (n : ℕ) (ks : List ℕ) : Type 0 where
  pub long : length ks ≡ n
  pub each : (i : ℕ) → i < n → get_or ks i 0 ≡ i

-- a number stands in a list
abbrev pub Has : List ℕ → ℕ → Type 0
Has ks k = (i : ℕ) × (i < length ks) × (get_or ks i 0 ≡ k)

-- some numbers below one, in ascending order
pub record Ascend (n : ℕ) (ks : List ℕ) : Type 0 where
  pub few : length ks ≤ n
  pub within : (i : ℕ) → i < length ks → get_or ks i 0 < n
  pub ordered : (i j : ℕ) → i < j → j < length ks → get_or ks i 0 < get_or ks j 0

-- the places of all rules that a part hasn't
pub record IsRest (sources : List Source) (p : Part) (rest : List ℕ) : Type 0 where
  pub places : Ascend (length sources) rest
  pub all : (k : ℕ) → k < length sources → Has rest k ⊎ HasPlace p k

-- rule i of these is the one at place i of some
pub record AreCopies (sources : List Source) (places : List ℕ) (copies : List Source) : Type 0 where
  pub long : length copies ≡ length places
  pub same : (i : ℕ) → i < length places → slice_get copies i ≡ slice_get sources (get_or places i 0)

-- the rules of a part's base stand before a place only among so many first ones
abbrev pub Reaches : Part → ℕ → ℕ → Type 0
Reaches p reach place = (b k : ℕ) → reach ≤ b → place_in p b ≡ Some k → place ≤ k

-- so it is at each place of a list
abbrev pub AreReaches : Part → List ℕ → Type 0
AreReaches p reaches = (place reach : ℕ) → slice_get reaches place ≡ Some reach → Reaches p reach place

-- a place is the first of a part's where a rule fits a packet, or no rule at these fits
abbrev pub IsFirstPlaced : List Offer → Addr → Header → List Source → Part → Option ℕ → Type 0
IsFirstPlaced offers ue h sources p None = (k : ℕ) → HasPlace p k → fits_at offers ue h sources k ≡ false
IsFirstPlaced offers ue h sources p (Some place) =
    (fits_at offers ue h sources place ≡ true) × ((k : ℕ) → HasPlace p k → fits_at offers ue h sources k ≡ true → place ≤ k)

-- the same, or no rule among so many first ones of the base fits
abbrev pub IsFirstWithin : ℕ → List Offer → Addr → Header → List Source → Part → Option ℕ → Type 0
IsFirstWithin reach offers ue h sources p None = (b k : ℕ) → b < reach → place_in p b ≡ Some k → fits_at offers ue h sources k ≡ false
IsFirstWithin reach offers ue h sources p (Some place) = IsFirstPlaced offers ue h sources p (Some place)
