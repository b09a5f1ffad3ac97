-- The lines of rules. A line is what can fit a packet: a filter of a dynamic rule, or a predefined
-- rule.
use Rattle.std.specs.Prelude.{ℕ, ◌+◌, ◌≡◌, ◌&&◌, Bool, true, List, [], ◌∷◌, ◌++◌, Option, Some, None, find, get_or, is_some, map, nat_lt, option_map, if◌then◌else◌, ⊤}
use Rattle.pcef_packet.specs.Addresses.{is_assigned, ue_side}
use Rattle.pcef_packet.specs.declared.header.Addr.{Addr}
use Rattle.pcef_packet.specs.declared.header.Addr.TheVariants as addr
use Rattle.pcef_packet.specs.declared.header.Header.{Header}
use Rattle.pcef_filter.specs.declared.filter.Filter.{Filter}
use Rattle.pcef_filter.specs.Matching.{matches}
use Rattle.pcef_catalog.specs.declared.listing.Offer.{Offer}
use Rattle.pcef_catalog.specs.Shapes.{detected}
use Rattle.pcef_table.specs.declared.entry.Source.{Source}
use Rattle.pcef_table.specs.declared.entry.Source.TheVariants.{Dynamic, Predefined}
use Rattle.pcef_index.specs.declared.lines.Line.{Line}
use Rattle.pcef_index.specs.declared.lines.Part.{Part}
use Rattle.pcef_index.specs.declared.lines.Part.TheVariants as part

abbrev pub filter_line : ℕ → Filter → Line
filter_line k f = record { place = k; part = part.Filter f }

abbrev pub filter_lines : ℕ → List Filter → List Line
filter_lines k filters = map (filter_line k) filters

abbrev pub source_lines : ℕ → Source → List Line
source_lines k (Dynamic rule) = filter_lines k rule.filters
source_lines k (Predefined index) = record { place = k; part = part.Offer index } ∷ []

-- the lines of rules in order, the first of them at place k
abbrev pub lines_from : ℕ → List Source → List Line
lines_from k [] = []
lines_from k (s ∷ ss) = source_lines k s ++ lines_from (k + 1) ss

abbrev pub part_fits : List Offer → Addr → Header → Part → Bool
part_fits offers ue header (part.Filter f) = matches f ue header
part_fits offers ue header (part.Offer index) = detected offers index header

-- the part of a line fits a packet
abbrev pub line_fits : List Offer → Addr → Header → Line → Bool
line_fits offers ue header l = part_fits offers ue header l.part

-- the rule that had place k still stands at one
abbrev pub stands : List (Option ℕ) → ℕ → Bool
stands places k = is_some (get_or places k None)

-- the part of a line fits a packet, and its rule still stands
abbrev pub standing_fits : List (Option ℕ) → List Offer → Addr → Header → Line → Bool
standing_fits places offers ue header l = line_fits offers ue header l && stands places l.place

-- how many of a network's first bits are those of all addresses of a session: at most 64 in version 6 (TS 23.401, clause
-- 5.3.1.2.2)
abbrev pub shared_bits : ℕ → Addr → ℕ
shared_bits bits (addr.V4 n) = bits
shared_bits bits (addr.V6 n) = if nat_lt 64 bits then 64 else bits

-- a packet is one of those that are looked up: of any session, or of the one with an address
abbrev pub IsFor : Option Addr → Addr → Header → Type 0
IsFor None ue h = ⊤
IsFor (Some own) ue h = (ue ≡ own) × (is_assigned (ue_side h) ue ≡ true)

-- of these packets, the first of some lines that fits, and whose rule stands, has the place of the first of all
abbrev pub KeepFor : Option Addr → List Line → List Line → Type 0
KeepFor own all kept =
    (places : List (Option ℕ)) (offers : List Offer) (ue : Addr) (h : Header) → IsFor own ue h
    → option_map (λ (l : Line). l.place) (find (standing_fits places offers ue h) kept)
    ≡ option_map (λ (l : Line). l.place) (find (standing_fits places offers ue h) all)
