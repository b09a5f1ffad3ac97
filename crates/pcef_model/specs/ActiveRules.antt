-- The rules that may be active, and which of them decides on a packet.
use Rattle.std.specs.Prelude.{ℕ, Bool, false, ◌&&◌, ◌||◌, not, List, Option, Some, None, find}
use Rattle.std.specs.List.{list_any, list_all}
use Rattle.pcef_packet.specs.declared.header.Addr.{Addr}
use Rattle.pcef_packet.specs.declared.header.Header.{Header}
use Rattle.pcef_filter.specs.declared.filter.Filter.{Filter}
use Rattle.pcef_filter.specs.Matching.{matches}
use Rattle.pcef_rule.specs.declared.rule.Origin.{Origin}
use Rattle.pcef_rule.specs.declared.rule.Origin.TheVariants as origin
use Rattle.pcef_rule.specs.declared.rule.Properties.{Properties}
use Rattle.pcef_rule.specs.Definition.{Definition}
use Rattle.pcef_rule.specs.Precedence.{Rank, goes_before, rank_by}
use Rattle.pcef_catalog.specs.declared.listing.Offer.{Offer}
use Rattle.pcef_catalog.specs.declared.shape.Test.{Test}
use Rattle.pcef_catalog.specs.Shapes.{shape_holds}
use Rattle.pcef_model.specs.Setting.{same_name}
use Rattle.pcef_model.specs.Named.{has_name, put_by, without_name}

-- how a rule finds its packets: by the filters of its definition, or by the shape of the catalog
pub data Detection : Type 0 where
  by_filters : List Filter → Detection
  by_shape : List (List Test) → Detection

pub record Active : Type 0 where
  pub properties : Properties
  pub detection : Detection

abbrev pub dynamic : Definition → Active
dynamic d = record { properties = d.properties; detection = by_filters d.filters }

abbrev pub predefined : Offer → Active
predefined o = record { properties = o.properties; detection = by_shape o.shape }

-- ---- rules by name
abbrev pub is_named : List ℕ → Active → Bool
is_named name r = has_name (λ s. s.properties.name) name r

abbrev pub without : List ℕ → List Active → List Active
without name rules = without_name (λ r. r.properties.name) name rules

-- the rules with this one: a modification keeps its place, and a new rule comes last
abbrev pub put : Active → List Active → List Active
put new rules = put_by (λ r. r.properties.name) new rules

abbrev pub put_if_some : Option Active → List Active → List Active
put_if_some None rules = rules
put_if_some (Some new) rules = put new rules

-- ---- rules by key
abbrev pub is_key : List ℕ → Option (List ℕ) → Bool
is_key key None = false
is_key key (Some other) = same_name key other

-- whether one of the rules has this monitoring key
abbrev pub has_key : List ℕ → List Active → Bool
has_key key rules = list_any (λ r. is_key key r.properties.key) rules

-- ---- rules and packets
abbrev pub detects : Detection → Addr → Header → Bool
detects (by_filters filters) ue header = list_any (λ f. matches f ue header) filters
detects (by_shape shape) ue header = shape_holds shape header

-- a dynamic rule fits a packet that one of its filters matches, a predefined rule one that its shape
-- detects (TS 23.203, clause 6.2.2.2)
abbrev pub fits : Addr → Header → Active → Bool
fits ue header r = detects r.detection ue header

abbrev pub origin_of : Detection → Origin
origin_of (by_filters filters) = origin.Dynamic
origin_of (by_shape shape) = origin.Predefined

abbrev pub rank_of : Active → Rank
rank_of r = rank_by (origin_of r.detection) r.properties

-- TS 29.212, clause 5.3.11, Precedence
abbrev pub is_before : Active → Active → Bool
is_before r s = goes_before (rank_of r) (rank_of s)

-- s doesn't fit, or is r itself, or goes after r
abbrev pub goes_ahead_of : Addr → Header → Active → Active → Bool
goes_ahead_of ue header r s = not (fits ue header s) || (is_named r.properties.name s || is_before r s)

-- the rule fits, and goes before every other rule that fits
abbrev pub is_decisive : List Active → Addr → Header → Active → Bool
is_decisive rules ue header r = fits ue header r && list_all (goes_ahead_of ue header r) rules

-- the one rule that decides on a packet
abbrev pub decisive : List Active → Addr → Header → Option Active
decisive rules ue header = find (is_decisive rules ue header) rules
