-- Which entries may fit where port lists are ignored.
use Rattle.std.specs.Prelude.{ℕ, ◌+◌, Bool, true, List, [], ◌∷◌, if◌then◌else◌}
use Rattle.std.specs.List.{list_any}
use Rattle.pcef_packet.specs.declared.header.Addr.{Addr}
use Rattle.pcef_packet.specs.declared.header.Header.{Header}
use Rattle.pcef_filter.specs.declared.filter.Endpoint.{Endpoint}
use Rattle.pcef_filter.specs.declared.filter.Filter.{Filter}
use Rattle.pcef_filter.specs.Matching.{matches}
use Rattle.pcef_table.specs.declared.entry.Source.{Source}
use Rattle.pcef_table.specs.declared.entry.Source.TheVariants.{Dynamic, Predefined}

abbrev pub without_end_ports : Endpoint → Endpoint
without_end_ports e = record { place = e.place; ports = record { items = [] } }

-- the filter, its port lists left out
abbrev pub without_ports : Filter → Filter
without_ports f = record f { source = without_end_ports f.source; target = without_end_ports f.target }

abbrev pub is_filter_candidate : Addr → Header → Filter → Bool
is_filter_candidate ue header f = matches (without_ports f) ue header

-- a predefined rule, or a dynamic one with a filter that matches if its port lists are left out
abbrev pub is_candidate : Addr → Header → Source → Bool
is_candidate ue header (Dynamic rule) = list_any (is_filter_candidate ue header) rule.filters
is_candidate ue header (Predefined index) = true

-- the places of the rules that pass a test, the first of them at place k
abbrev pub places_from : (Source → Bool) → ℕ → List Source → List ℕ
places_from p k [] = []
places_from p k (s ∷ ss) = if p s then k ∷ places_from p (k + 1) ss else places_from p (k + 1) ss
