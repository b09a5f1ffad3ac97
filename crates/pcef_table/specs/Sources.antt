-- The rule of an entry: its properties, its rank, and which packets it fits.
use Rattle.std.specs.Prelude.{ℕ, ◌<◌, Bool, List, [], Option, Some, length, slice_get}
use Rattle.std.specs.List.{list_any}
use Rattle.std.specs.Option.{option_map, option_map_or}
use Rattle.std.specs.Str.{bytes_eq}
use Rattle.pcef_packet.specs.declared.header.Addr.{Addr}
use Rattle.pcef_packet.specs.declared.header.Header.{Header}
use Rattle.pcef_filter.specs.Matching.{matches}
use Rattle.pcef_rule.specs.declared.rule.Origin.{Origin}
use Rattle.pcef_rule.specs.declared.rule.Origin.TheVariants as origin
use Rattle.pcef_rule.specs.declared.rule.Properties.{Properties}
use Rattle.pcef_rule.specs.Precedence.{Rank, rank_by}
use Rattle.pcef_catalog.specs.declared.listing.Offer.{Offer}
use Rattle.pcef_table.specs.declared.entry.Source.{Source}
use Rattle.pcef_table.specs.declared.entry.Source.TheVariants.{Dynamic, Predefined}
use Rattle.pcef_catalog.specs.Shapes.{detected}

-- a place of the catalog that is named is there
abbrev pub IsKnown : List Offer → Source → Type 0
IsKnown offers (Dynamic rule) = Unit {0}
IsKnown offers (Predefined index) = index < length offers

abbrev pub properties_of : List Offer → Source → Option Properties
properties_of offers (Dynamic rule) = Some rule.properties
properties_of offers (Predefined index) = option_map (λ o. o.properties) (slice_get offers index)

abbrev pub source_origin : Source → Origin
source_origin (Dynamic rule) = origin.Dynamic
source_origin (Predefined index) = origin.Predefined

abbrev pub no_rank : Rank
no_rank = record { precedence = 0; origin = origin.Dynamic; name = [] }

abbrev pub source_rank : List Offer → Source → Rank
source_rank offers s = option_map_or (rank_by (source_origin s)) (properties_of offers s) no_rank

abbrev pub name_of : List Offer → Source → List ℕ
name_of offers s = option_map_or (λ p. p.name) (properties_of offers s) []

abbrev pub source_is_named : List Offer → List ℕ → Source → Bool
source_is_named offers name s = bytes_eq (name_of offers s) name

-- a dynamic rule fits a packet that one of its filters matches, a predefined one a packet that its
-- shape detects (TS 23.203, clause 6.2.2.2)
abbrev pub source_fits : List Offer → Addr → Header → Source → Bool
source_fits offers ue header (Dynamic rule) = list_any (λ f. matches f ue header) rule.filters
source_fits offers ue header (Predefined index) = detected offers index header
