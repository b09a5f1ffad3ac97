-- What a filter that matches a packet says of the packet's sides.
use Rattle.std.proofs.Common.{◌≡◌, ◌&&◌, ◌∙◌, ℕ, true, Option, Some, None, ap, refl, sym}
use Rattle.std.proofs.lemmas.Bool.{and_parts}
use Rattle.pcef_packet.specs.declared.header.Addr.{Addr}
use Rattle.pcef_packet.specs.declared.header.Dir.{Dir}
use Rattle.pcef_packet.specs.declared.header.Dir.TheVariants.{Up, Down}
use Rattle.pcef_packet.specs.declared.header.Header.{Header}
use Rattle.pcef_packet.specs.declared.header.Ports.{Ports}
use Rattle.pcef_filter.specs.declared.filter.Direction.{Direction}
use Rattle.pcef_filter.specs.declared.filter.Direction.TheVariants.{In, Out}
use Rattle.pcef_filter.specs.declared.filter.Endpoint.{Endpoint}
use Rattle.pcef_filter.specs.declared.filter.Flow.{Flow}
use Rattle.pcef_filter.specs.declared.filter.Flow.TheVariants.{Downlink, Uplink, Bidirectional}
use Rattle.pcef_filter.specs.declared.filter.Filter.{Filter}
use Rattle.pcef_filter.specs.Matching.{applies, dst_port, endpoint_fits, matches, orientation_of, oriented_fits, place_fits, ports_fit, proto_fits, src_port}
use Rattle.pcef_index.specs.declared.sides.Side.{Side}
use Rattle.pcef_index.specs.declared.sides.Side.TheVariants.{Remote, Local}
use Rattle.pcef_index.specs.private.Sides.{addr_in, end_in, port_of}

-- a side of a packet fits the end of a filter
pub record FitsSide (d : Direction) (dir : Dir) (f : Filter) (ue : Addr) (h : Header) (side : Side) : Type 0 where
  pub place : place_fits (end_in side d f).place ue (addr_in side dir h) ≡ true
  pub ports : ports_fit (end_in side d f).ports.items (port_of side dir h.ports) ≡ true

-- a filter applies to a packet, and both sides fit
pub record FitsSides (d : Direction) (flow : Option Flow) (dir : Dir) (f : Filter) (ue : Addr) (h : Header) : Type 0 where
  pub goes : applies (orientation_of d flow dir) ≡ true
  pub remote : FitsSide d dir f ue h Remote
  pub local : FitsSide d dir f ue h Local

up_local : (o : Option Ports) → src_port o ≡ port_of Local Up o
up_local None = refl
up_local (Some p) = refl

up_remote : (o : Option Ports) → dst_port o ≡ port_of Remote Up o
up_remote None = refl
up_remote (Some p) = refl

down_local : (o : Option Ports) → dst_port o ≡ port_of Local Down o
down_local None = refl
down_local (Some p) = refl

down_remote : (o : Option Ports) → src_port o ≡ port_of Remote Down o
down_remote None = refl
down_remote (Some p) = refl

-- the parts of an end that fits
side_of : (e : Endpoint) (ue addr : Addr) (port other : Option ℕ) → port ≡ other → endpoint_fits e ue addr port ≡ true
    → (place_fits e.place ue addr ≡ true) × (ports_fit e.ports.items other ≡ true)
side_of e ue addr port other same fits =
    let both = and_parts (place_fits e.place ue addr) (ports_fit e.ports.items port) fits in
    (both.0, ap (ports_fit e.ports.items) (sym same) ∙ both.1)

uplink_sides : (s t : Endpoint) (ue : Addr) (h : Header) → (endpoint_fits s ue h.src (src_port h.ports) && endpoint_fits t ue h.dst (dst_port h.ports)) ≡ true
    → ((place_fits s.place ue h.src ≡ true) × (ports_fit s.ports.items (port_of Local Up h.ports) ≡ true))
    × ((place_fits t.place ue h.dst ≡ true) × (ports_fit t.ports.items (port_of Remote Up h.ports) ≡ true))
uplink_sides s t ue h fits =
    let both = and_parts (endpoint_fits s ue h.src (src_port h.ports)) (endpoint_fits t ue h.dst (dst_port h.ports)) fits in (
      side_of s ue h.src (src_port h.ports) (port_of Local Up h.ports) (up_local h.ports) both.0,
      side_of t ue h.dst (dst_port h.ports) (port_of Remote Up h.ports) (up_remote h.ports) both.1,
    )

downlink_sides : (s t : Endpoint) (ue : Addr) (h : Header) → (endpoint_fits s ue h.src (src_port h.ports) && endpoint_fits t ue h.dst (dst_port h.ports)) ≡ true
    → ((place_fits s.place ue h.src ≡ true) × (ports_fit s.ports.items (port_of Remote Down h.ports) ≡ true))
    × ((place_fits t.place ue h.dst ≡ true) × (ports_fit t.ports.items (port_of Local Down h.ports) ≡ true))
downlink_sides s t ue h fits =
    let both = and_parts (endpoint_fits s ue h.src (src_port h.ports)) (endpoint_fits t ue h.dst (dst_port h.ports)) fits in (
      side_of s ue h.src (src_port h.ports) (port_of Remote Down h.ports) (down_remote h.ports) both.0,
      side_of t ue h.dst (dst_port h.ports) (port_of Local Down h.ports) (down_local h.ports) both.1,
    )

fits_sides : (d : Direction) (flow : Option Flow) (dir : Dir) (f : Filter) (ue : Addr) (h : Header) → oriented_fits (orientation_of d flow dir) f ue h ≡ true → FitsSides d flow dir f ue h
fits_sides In flow Up f ue h fits =
    let both = uplink_sides f.source f.target ue h fits in
    record { goes = refl; remote = record { place = both.1.0; ports = both.1.1 }; local = record { place = both.0.0; ports = both.0.1 } }
fits_sides In flow Down f ue h fits = absurd (cc)
fits_sides Out None Up f ue h fits = absurd (cc)
fits_sides Out None Down f ue h fits =
    let both = downlink_sides f.source f.target ue h fits in
    record { goes = refl; remote = record { place = both.0.0; ports = both.0.1 }; local = record { place = both.1.0; ports = both.1.1 } }
fits_sides Out (Some Downlink) Up f ue h fits = absurd (cc)
fits_sides Out (Some Downlink) Down f ue h fits =
    let both = downlink_sides f.source f.target ue h fits in
    record { goes = refl; remote = record { place = both.0.0; ports = both.0.1 }; local = record { place = both.1.0; ports = both.1.1 } }
fits_sides Out (Some Uplink) Up f ue h fits =
    let both = uplink_sides f.target f.source ue h fits in
    record { goes = refl; remote = record { place = both.1.0; ports = both.1.1 }; local = record { place = both.0.0; ports = both.0.1 } }
fits_sides Out (Some Uplink) Down f ue h fits = absurd (cc)
fits_sides Out (Some Bidirectional) Up f ue h fits =
    let both = uplink_sides f.target f.source ue h fits in
    record { goes = refl; remote = record { place = both.1.0; ports = both.1.1 }; local = record { place = both.0.0; ports = both.0.1 } }
fits_sides Out (Some Bidirectional) Down f ue h fits =
    let both = downlink_sides f.source f.target ue h fits in
    record { goes = refl; remote = record { place = both.0.0; ports = both.0.1 }; local = record { place = both.1.0; ports = both.1.1 } }

-- the protocol of a packet that a filter matches fits
pub proto_matches : (f : Filter) (ue : Addr) (h : Header) → matches f ue h ≡ true → proto_fits f.proto h.proto ≡ true
proto_matches f ue h fits =
    (and_parts (proto_fits f.proto h.proto) (oriented_fits (orientation_of f.direction f.flow h.dir) f ue h) fits).0

-- and so do its direction and its sides
pub sides_match : (f : Filter) (ue : Addr) (h : Header) → matches f ue h ≡ true → FitsSides f.direction f.flow h.dir f ue h
sides_match f ue h fits =
    fits_sides f.direction f.flow h.dir f ue h
    (and_parts (proto_fits f.proto h.proto) (oriented_fits (orientation_of f.direction f.flow h.dir) f ue h) fits).1
