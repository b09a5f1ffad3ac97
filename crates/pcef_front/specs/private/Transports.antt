-- The transport behind the extension headers. It only serves the proof of the reader.
use Rattle.std.specs.Prelude.{ℕ, ◌/◌, ◌%◌, ◌==◌, ◌<◌, ◌≤◌, ◌++◌, List, length, drop, slice_index, nat_le, Bool, false, ◌&&◌, Option, Some, None, Result, Ok, Err, if◌then◌else◌, ◌≡◌}
use Rattle.pcef_packet.specs.declared.header.Addr.TheVariants.{V4, V6}
use Rattle.pcef_packet.specs.declared.header.Dir.{Dir}
use Rattle.pcef_packet.specs.declared.header.Header.{Header}
use Rattle.pcef_packet.specs.declared.header.PacketFault.{PacketFault}
use Rattle.pcef_packet.specs.declared.header.PacketFault.TheVariants as fault
use Rattle.pcef_packet.specs.declared.header.Ports.{Ports}
use Rattle.pcef_packet.specs.Carrying.{carried_in, past}
use Rattle.pcef_packet.specs.ExtensionHeaders.{Carried, is_later}
use Rattle.pcef_packet.specs.HeaderOf.{carries_ports, faults_v4, fragment_offset_v4, header_unless, header_v4, number, payload_v4, ports_in, total_len_v4, volume_v6}
use Rattle.pcef_front.specs.Fronts.{IsSettledBy, MayFollow}
use Rattle.pcef_front.specs.declared.extensions.Beyond.{Beyond}
use Rattle.pcef_front.specs.declared.extensions.Beyond.TheVariants.{To, Portless}
use Rattle.pcef_front.specs.declared.extensions.Transport.{Transport}
use Rattle.pcef_front.specs.declared.fault.FrontFault.{FrontFault}

abbrev pub transport : ℕ → Option Ports → Transport
transport proto ports = record { proto = proto; ports = ports }

abbrev pub transport_carried : Option Carried → Result Transport PacketFault
transport_carried None = Err fault.BadHeaderLength
transport_carried (Some c) = Ok (transport c.proto (if c.begins then ports_in c.proto c.payload else None))

-- the transport behind the headers in front; the first of them has this kind
unfoldable pub transport_in : ℕ → List ℕ → Result Transport PacketFault
transport_in kind octets = transport_carried (carried_in kind octets)

-- the ports, as a reader of payloads that has no fault
abbrev pub ports_read : ℕ → List ℕ → Result (Option Ports) PacketFault
ports_read proto payload = Ok (ports_in proto payload)

-- those at the front of a payload
abbrev pub ports_at : List ℕ → Ports
ports_at payload = record { src = number payload 0 2; dst = number payload 2 2 }

-- a payload of this many octets has them
abbrev pub has_ports : ℕ → ℕ → Bool
has_ports proto room = carries_ports proto && nat_le 4 room

-- ---- version 4
-- the header with these ports
abbrev pub header_with_v4 : Dir → List ℕ → Option Ports → Header
header_with_v4 dir octets ports = record {
  dir = dir;
  src = V4 (number octets 12 4);
  dst = V4 (number octets 16 4);
  proto = slice_index octets 9;
  ports = ports;
  octets = total_len_v4 octets;
  dscp = slice_index octets 1 / 4;
}

-- the ports of a packet whose lengths are right
abbrev pub ports_v4 : List ℕ → Result (Option Ports) PacketFault
ports_v4 octets = Ok (if fragment_offset_v4 octets == 0 then ports_in (slice_index octets 9) (payload_v4 octets) else None)

-- a header of version 4, or its first fault
abbrev pub reading_v4 : Dir → List ℕ → Result Header PacketFault
reading_v4 dir octets = header_unless (faults_v4 octets) (header_v4 dir octets)

-- whatever follows, the header in front is skipped so
abbrev pub Passes : ℕ → List ℕ → ℕ → ℕ → ℕ → Type 0
Passes kind left room next len =
    (8 ≤ len) × (len ≤ room)
    × ((rest : List ℕ) → MayFollow left room rest → past kind (left ++ rest) ≡ Some (next, drop len (left ++ rest), false))

-- the first octets of a fragment header say whether it is a later fragment's, or don't
abbrev pub ShowsLater : List ℕ → Option Bool → Type 0
ShowsLater left None = (length left < 4) × (slice_index left 2 ≡ 0)
ShowsLater left (Some later) = (rest : List ℕ) → is_later 44 (left ++ rest) ≡ later

-- what follows an extension header
abbrev pub LeadsTo : ℕ → List ℕ → ℕ → Result Beyond FrontFault → Type 0
LeadsTo kind left room (Ok (To next len)) = Passes kind left room next len
LeadsTo kind left room (Ok (Portless proto)) = IsSettledBy (transport_in kind) left room (Ok (transport proto None))
LeadsTo kind left room (Err e) = IsSettledBy (transport_in kind) left room (Err e)

-- ---- version 6
-- the header of a packet with this transport
abbrev pub header_with_v6 : Dir → List ℕ → Transport → Header
header_with_v6 dir octets carried = record {
  dir = dir;
  src = V6 (number octets 8 16);
  dst = V6 (number octets 24 16);
  proto = carried.proto;
  ports = carried.ports;
  octets = volume_v6 octets;
  dscp = number octets 0 2 / 64 % 64;
}
