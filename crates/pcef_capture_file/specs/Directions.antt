-- Which way a packet goes for a session.
use Rattle.std.specs.Prelude.{ℕ, List, Option, Some, None, Result, Ok, if◌then◌else◌}
use Rattle.pcef_base.specs.Readings.{◌>>=◌}
use Rattle.pcef_packet.specs.Addresses.{is_assigned}
use Rattle.pcef_packet.specs.HeaderOf.{header_of}
use Rattle.pcef_packet.specs.declared.header.Addr.{Addr}
use Rattle.pcef_packet.specs.declared.header.Dir.{Dir}
use Rattle.pcef_packet.specs.declared.header.Dir.TheVariants.{Up, Down}
use Rattle.pcef_packet.specs.declared.header.Header.{Header}
use Rattle.pcef_packet.specs.declared.header.PacketFault.{PacketFault}

-- up from an address of the session, down to one
abbrev pub way_of : Addr → Header → Option Dir
way_of ue header =
    if is_assigned header.src ue then Some Up
    else if is_assigned header.dst ue then Some Down
    else None

unfoldable pub direction_of_packet : Addr → List ℕ → Result (Option Dir) PacketFault
direction_of_packet ue octets = header_of Up octets >>= (λ header. Ok (way_of ue header))
