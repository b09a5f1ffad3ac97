-- When a shape holds (own choice: TS 23.203, clause 6.2.2.2, lets a predefined rule detect its packets
-- by more than addresses, ports and protocol).
use Rattle.std.specs.Prelude.{ℕ, ◌==◌, nat_le, Bool, true, false, ◌&&◌, List, Option, Some, None, slice_get}
use Rattle.std.specs.List.{list_any, list_all}
use Rattle.std.specs.Option.{option_map_or}
use Rattle.pcef_packet.specs.declared.header.Dir.{Dir}
use Rattle.pcef_packet.specs.declared.header.Dir.TheVariants.{Up, Down}
use Rattle.pcef_packet.specs.declared.header.Header.{Header}
use Rattle.pcef_packet.specs.declared.header.Ports.{Ports}
use Rattle.pcef_packet.specs.Addresses.{agrees_in, remote_side, same_dir}
use Rattle.pcef_catalog.specs.declared.listing.Offer.{Offer}
use Rattle.pcef_catalog.specs.declared.shape.Test.{Test}
use Rattle.pcef_catalog.specs.declared.shape.Test.TheVariants.{Proto, Dscp, RemotePort, LocalPort, RemoteIn, OctetsAtMost, Going}

-- the local side is that of the user equipment
abbrev pub local_port : Dir → Ports → ℕ
local_port Up ports = ports.src
local_port Down ports = ports.dst

abbrev pub remote_port : Dir → Ports → ℕ
remote_port Up ports = ports.dst
remote_port Down ports = ports.src

-- a port test needs ports
abbrev pub port_between : (Ports → ℕ) → Option Ports → ℕ → ℕ → Bool
port_between side None low high = false
port_between side (Some ports) low high = nat_le low (side ports) && nat_le (side ports) high

abbrev pub test_holds : Header → Test → Bool
test_holds header (Proto proto) = header.proto == proto
test_holds header (Dscp point) = header.dscp == point
test_holds header (RemotePort low high) = port_between (remote_port header.dir) header.ports low high
test_holds header (LocalPort low high) = port_between (local_port header.dir) header.ports low high
test_holds header (RemoteIn net) = agrees_in net.bits (remote_side header) net.addr
test_holds header (OctetsAtMost most) = nat_le header.octets most
test_holds header (Going dir) = same_dir header.dir dir

-- all tests of some alternative are true
abbrev pub shape_holds : List (List Test) → Header → Bool
shape_holds shape header = list_any (λ tests. list_all (test_holds header) tests) shape

-- whether the rule at this place of a catalog detects a packet
abbrev pub detected : List Offer → ℕ → Header → Bool
detected offers index header = option_map_or (λ o. shape_holds o.shape header) (slice_get offers index) false

-- a test looks at nothing that differs among the packets of a flow with one code point
abbrev pub test_ignores_volume : Test → Bool
test_ignores_volume (OctetsAtMost most) = false
test_ignores_volume test = true

-- no test of a shape looks at the volume
abbrev pub shape_ignores_volume : List (List Test) → Bool
shape_ignores_volume shape = list_all (λ tests. list_all test_ignores_volume tests) shape
