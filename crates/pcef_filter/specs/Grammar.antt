-- The grammar of filter texts: which filter a text spells (RFC 6733, clause 4.3.1; `permit` alone,
-- without `!` and options: own choice). A text spells one filter at most; a filter may be spelled in
-- several ways.
use Rattle.std.specs.Prelude.{ℕ, ◌≡◌, List, [], ◌∷◌, ◌++◌, Option, codes}
use Rattle.pcef_filter.specs.Tokens.{Token, tokens}
use Rattle.pcef_filter.specs.Classes.{IsDirection, IsProto, IsPlace, IsPorts, AllowsFlow}
use Rattle.pcef_filter.specs.declared.filter.Flow.{Flow}
use Rattle.pcef_filter.specs.declared.filter.PortRange.{PortRange}
use Rattle.pcef_filter.specs.declared.filter.Endpoint.{Endpoint}
use Rattle.pcef_filter.specs.declared.filter.Filter.{Filter}

-- [ports]: a port list in one token, or nothing
abbrev pub SpellsPorts : List Token → List PortRange → Type 0
SpellsPorts [] ranges = ranges ≡ []
SpellsPorts (token ∷ []) ranges = IsPorts token ranges
SpellsPorts (token ∷ second ∷ rest) ranges = ⊥

-- place [ports]
abbrev pub SpellsEndpoint : List Token → Endpoint → Type 0
SpellsEndpoint [] endpoint = ⊥
SpellsEndpoint (token ∷ rest) endpoint = IsPlace token endpoint.place × SpellsPorts rest endpoint.ports.items

-- permit dir proto from place [ports] to place [ports]
pub record SpellsTokens (ts : List Token) (filter : Filter) : Type 0 where
  pub dir : Token
  pub proto : Token
  pub source : List Token
  pub target : List Token
  pub order : ts ≡ codes "permit" ∷ dir ∷ proto ∷ codes "from" ∷ (source ++ (codes "to" ∷ target))
  pub spells_direction : IsDirection dir filter.direction
  pub spells_proto : IsProto proto filter.proto
  pub spells_source : SpellsEndpoint source filter.source
  pub spells_target : SpellsEndpoint target filter.target

-- the text spells the filter, which has the given flow word, and may have it
pub record Spells (text : List ℕ) (flow : Option Flow) (filter : Filter) : Type 0 where
  pub parts : SpellsTokens (tokens text) filter
  pub given : filter.flow ≡ flow
  pub allowed : AllowsFlow filter.direction flow
