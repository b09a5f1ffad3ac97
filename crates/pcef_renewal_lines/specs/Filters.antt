-- Filters as lines write them: the text of a filter (RFC 6733, clause 4.3.1), and its flow word beside it.
use Rattle.std.specs.Prelude.{ℕ, ◌==◌, ◌++◌, List, [], ◌∷◌, Option, Some, None, codes, decimal, if◌then◌else◌}
use Rattle.std.specs.List.{join_by}
use Rattle.pcef_filter.specs.declared.filter.Direction.{Direction}
use Rattle.pcef_filter.specs.declared.filter.Direction.TheVariants as direction
use Rattle.pcef_filter.specs.declared.filter.Endpoint.{Endpoint}
use Rattle.pcef_filter.specs.declared.filter.Filter.{Filter}
use Rattle.pcef_filter.specs.declared.filter.Flow.{Flow}
use Rattle.pcef_filter.specs.declared.filter.Flow.TheVariants as flow
use Rattle.pcef_filter.specs.declared.filter.Place.{Place}
use Rattle.pcef_filter.specs.declared.filter.Place.TheVariants as place
use Rattle.pcef_filter.specs.declared.filter.PortRange.{PortRange}
use Rattle.pcef_renewal_lines.specs.Addresses.{address_text}

-- ---- ports
-- one port, or the first and the last of a range
abbrev pub range_text : PortRange → List ℕ
range_text range = if range.first == range.last then decimal range.first else decimal range.first ++ (codes "-" ++ decimal range.last)

-- behind a place, with a space before them
abbrev pub ports_text : List PortRange → List ℕ
ports_text [] = []
ports_text (range ∷ ranges) = codes " " ++ join_by range_text (codes ",") (range ∷ ranges)

-- ---- sides
-- a network has its prefix length, also where it is the whole address
abbrev pub place_text : Place → List ℕ
place_text place.Any = codes "any"
place_text place.Assigned = codes "assigned"
place_text (place.Net net) = address_text net.addr ++ (codes "/" ++ decimal net.bits)

abbrev pub endpoint_text : Endpoint → List ℕ
endpoint_text side = place_text side.place ++ ports_text side.ports.items

-- ---- filters
abbrev pub direction_word : Direction → List ℕ
direction_word direction.In = codes "in"
direction_word direction.Out = codes "out"

abbrev pub proto_text : Option ℕ → List ℕ
proto_text None = codes "ip"
proto_text (Some number) = decimal number

abbrev pub filter_text : Filter → List ℕ
filter_text f =
    codes "permit " ++ (direction_word f.direction ++ (codes " " ++ (proto_text f.proto
    ++ (codes " from " ++ (endpoint_text f.source ++ (codes " to " ++ endpoint_text f.target))))))

abbrev pub flow_part : Option Flow → List ℕ
flow_part None = []
flow_part (Some flow.Downlink) = codes ",\"flow\":\"downlink\""
flow_part (Some flow.Uplink) = codes ",\"flow\":\"uplink\""
flow_part (Some flow.Bidirectional) = codes ",\"flow\":\"bidirectional\""

unfoldable pub filter_object : Filter → List ℕ
filter_object f = codes "{\"text\":\"" ++ (filter_text f ++ (codes "\"" ++ (flow_part f.flow ++ codes "}")))

-- with commas between them
abbrev pub filters_text : List Filter → List ℕ
filters_text filters = join_by filter_object (codes ",") filters
