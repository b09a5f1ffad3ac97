-- A filter by its place among those of a rule.
use Rattle.std.specs.Prelude.{ℕ, List, [], None, get_or}
use Rattle.pcef_filter.specs.declared.filter.Direction.TheVariants.{In}
use Rattle.pcef_filter.specs.declared.filter.Endpoint.{Endpoint}
use Rattle.pcef_filter.specs.declared.filter.Filter.{Filter}
use Rattle.pcef_filter.specs.declared.filter.Place.TheVariants as place

abbrev pub any_end : Endpoint
any_end = record { place = place.Any; ports = record { items = [] } }

-- the filter past the last
abbrev pub past_last : Filter
past_last = record { direction = In; flow = None; proto = None; source = any_end; target = any_end }

abbrev pub filter_at : List Filter → ℕ → Filter
filter_at filters k = get_or filters k past_last
