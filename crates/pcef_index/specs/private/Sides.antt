-- The two sides of filters and of packets.
use Rattle.std.specs.Prelude.{ℕ, ◌*◌, Option, Some, None}
use Rattle.pcef_packet.specs.declared.header.Addr.{Addr}
use Rattle.pcef_packet.specs.declared.header.Dir.{Dir}
use Rattle.pcef_packet.specs.declared.header.Header.{Header}
use Rattle.pcef_packet.specs.declared.header.Ports.{Ports}
use Rattle.pcef_packet.specs.Addresses.{remote_side_in, ue_side_in}
use Rattle.pcef_catalog.specs.Shapes.{local_port, remote_port}
use Rattle.pcef_filter.specs.declared.filter.Direction.{Direction}
use Rattle.pcef_filter.specs.declared.filter.Direction.TheVariants.{In, Out}
use Rattle.pcef_filter.specs.declared.filter.Endpoint.{Endpoint}
use Rattle.pcef_filter.specs.declared.filter.Filter.{Filter}
use Rattle.pcef_index.specs.declared.sides.Side.{Side}
use Rattle.pcef_index.specs.declared.sides.Side.TheVariants.{Remote, Local}

-- an `in` text has the user equipment before `to`, an `out` text has it behind
abbrev pub end_in : Side → Direction → Filter → Endpoint
end_in Remote In f = f.target
end_in Remote Out f = f.source
end_in Local In f = f.source
end_in Local Out f = f.target

-- the end of a filter on a side, whatever the direction of a packet
abbrev pub end_on : Side → Filter → Endpoint
end_on side f = end_in side f.direction f

abbrev pub addr_in : Side → Dir → Header → Addr
addr_in Remote dir h = remote_side_in dir h
addr_in Local dir h = ue_side_in dir h

-- the address of a packet on a side
abbrev pub addr_on : Side → Header → Addr
addr_on side h = addr_in side h.dir h

abbrev pub port_in : Side → Dir → Ports → ℕ
port_in Remote dir ports = remote_port dir ports
port_in Local dir ports = local_port dir ports

abbrev pub port_of : Side → Dir → Option Ports → Option ℕ
port_of side dir None = None
port_of side dir (Some ports) = Some (port_in side dir ports)

-- the port of a packet on a side, where it has ports
abbrev pub port_on : Side → Header → Option ℕ
port_on side h = port_of side h.dir h.ports

-- a protocol as a number that is looked up as ports are
abbrev pub proto_number : ℕ → ℕ
proto_number proto = proto * 256
