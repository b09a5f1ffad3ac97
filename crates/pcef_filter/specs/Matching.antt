-- Which headers a filter matches (RFC 6733, clause 4.3.1, in this project's profile).
use Rattle.std.specs.Prelude.{ℕ, ◌==◌, nat_le, Bool, true, false, ◌&&◌, List, [], ◌∷◌, Option, Some, None}
use Rattle.std.specs.List.{list_any}
use Rattle.pcef_packet.specs.declared.header.Addr.{Addr}
use Rattle.pcef_packet.specs.declared.header.Dir.{Dir}
use Rattle.pcef_packet.specs.declared.header.Dir.TheVariants.{Up, Down}
use Rattle.pcef_packet.specs.declared.header.Header.{Header}
use Rattle.pcef_packet.specs.declared.header.Ports.{Ports}
use Rattle.pcef_packet.specs.Addresses.{agrees_in, is_assigned}
use Rattle.pcef_filter.specs.declared.filter.Direction.{Direction}
use Rattle.pcef_filter.specs.declared.filter.Direction.TheVariants.{In, Out}
use Rattle.pcef_filter.specs.declared.filter.Flow.{Flow}
use Rattle.pcef_filter.specs.declared.filter.Flow.TheVariants.{Downlink, Uplink, Bidirectional}
use Rattle.pcef_filter.specs.declared.filter.Place.{Place}
use Rattle.pcef_filter.specs.declared.filter.Place.TheVariants.{Any, Assigned, Net}
use Rattle.pcef_filter.specs.declared.filter.PortRange.{PortRange}
use Rattle.pcef_filter.specs.declared.filter.Endpoint.{Endpoint}
use Rattle.pcef_filter.specs.declared.filter.Filter.{Filter}

-- how the endpoints of a filter stand to a packet: its source on the packet's source, or on the packet's
-- destination, or not at all
pub data Orientation : Type 0 where
  AsWritten : Orientation
  Exchanged : Orientation
  NotApplied : Orientation

-- an `in` text applies to uplink packets as written; an `out` text to downlink packets, or as its
-- flow word says (TS 29.212, clause 5.3.65, Flow-Direction), with source and target exchanged on uplink packets
abbrev pub orientation_of : Direction → Option Flow → Dir → Orientation
orientation_of In word Up = AsWritten
orientation_of In word Down = NotApplied
orientation_of Out None Down = AsWritten
orientation_of Out None Up = NotApplied
orientation_of Out (Some Downlink) Down = AsWritten
orientation_of Out (Some Downlink) Up = NotApplied
orientation_of Out (Some Uplink) Down = NotApplied
orientation_of Out (Some Uplink) Up = Exchanged
orientation_of Out (Some Bidirectional) Down = AsWritten
orientation_of Out (Some Bidirectional) Up = Exchanged

abbrev pub applies : Orientation → Bool
applies NotApplied = false
applies _ = true

-- without a number every protocol fits
abbrev pub proto_fits : Option ℕ → ℕ → Bool
proto_fits None proto = true
proto_fits (Some wanted) proto = proto == wanted

abbrev pub place_fits : Place → Addr → Addr → Bool
place_fits Any ue addr = true
place_fits Assigned ue addr = is_assigned addr ue
place_fits (Net net) ue addr = agrees_in net.bits addr net.addr

abbrev pub in_ranges : List PortRange → ℕ → Bool
in_ranges ranges port = list_any (λ r. nat_le r.first port && nat_le port r.last) ranges

-- a header without ports fits no port list; without a list all fit
abbrev pub ports_fit : List PortRange → Option ℕ → Bool
ports_fit [] port = true
ports_fit (r ∷ rs) None = false
ports_fit (r ∷ rs) (Some port) = in_ranges (r ∷ rs) port

abbrev pub endpoint_fits : Endpoint → Addr → Addr → Option ℕ → Bool
endpoint_fits e ue addr port = place_fits e.place ue addr && ports_fit e.ports.items port

abbrev pub src_port : Option Ports → Option ℕ
src_port None = None
src_port (Some ports) = Some ports.src

abbrev pub dst_port : Option Ports → Option ℕ
dst_port None = None
dst_port (Some ports) = Some ports.dst

-- one endpoint fits the packet's source, and the other its destination
abbrev pub endpoints_fit : Endpoint → Endpoint → Addr → Header → Bool
endpoints_fit s t ue header =
    endpoint_fits s ue header.src (src_port header.ports) && endpoint_fits t ue header.dst (dst_port header.ports)

abbrev pub oriented_fits : Orientation → Filter → Addr → Header → Bool
oriented_fits AsWritten f ue header = endpoints_fit f.source f.target ue header
oriented_fits Exchanged f ue header = endpoints_fit f.target f.source ue header
oriented_fits NotApplied f ue header = false

-- all parts match
abbrev pub matches : Filter → Addr → Header → Bool
matches f ue header = proto_fits f.proto header.proto && oriented_fits (orientation_of f.direction f.flow header.dir) f ue header
