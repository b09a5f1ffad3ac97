-- The header at the front of a packet's octets. Its fields are the numbers at their places; the
-- faults are conditions on the octets, of which the first that holds is answered.
use Rattle.std.specs.Prelude.{ℕ, ◌+◌, ◌*◌, ◌/◌, ◌%◌, ◌^◌, ◌≡◌, ◌<◌, ◌≤◌, ◌==◌, nat_lt, nat_le, Bool, ◌&&◌, ◌||◌, List, [], ◌∷◌, length, drop, slice_index, slice_range, Option, Some, None, Result, Ok, Err, if◌then◌else◌}
use Rattle.byteorder.specs.Endian.{big_number}
use Rattle.pcef_packet.specs.declared.header.Dir.{Dir}
use Rattle.pcef_packet.specs.declared.header.Addr.TheVariants.{V4, V6}
use Rattle.pcef_packet.specs.declared.header.Ports.{Ports}
use Rattle.pcef_packet.specs.declared.header.Header.{Header}
use Rattle.pcef_packet.specs.declared.header.PacketFault.{PacketFault}
use Rattle.pcef_packet.specs.declared.header.PacketFault.TheVariants as fault
use Rattle.pcef_packet.specs.ExtensionHeaders.{Carried, IsCarried, IsCut}
use Rattle.pcef_packet.specs.Carrying.{carried_in}

-- a condition, and the fault that is answered where it holds
pub record FaultWhen : Type 0 where
  pub holds : Bool
  pub fault : PacketFault

infix 5 ◌⇒◌
abbrev pub ◌⇒◌ : Bool → PacketFault → FaultWhen
holds ⇒ fault = record { holds = holds; fault = fault }

-- the fault of the first condition that holds, else the header
abbrev pub header_unless : List FaultWhen → Header → Result Header PacketFault
header_unless [] header = Ok header
header_unless (w ∷ ws) header = if w.holds then Err w.fault else header_unless ws header

-- the number in `len` octets from a place on, the highest octet first (RFC 791, appendix B)
abbrev pub number : List ℕ → ℕ → ℕ → ℕ
number octets place len = big_number len (drop place octets)

-- Version: the upper half of the first octet (RFC 791, clause 3.1)
abbrev pub version : List ℕ → ℕ
version octets = slice_index octets 0 / 16

-- ---- version 4: RFC 791, clause 3.1
-- IHL: the lower half of the first octet, in units of four octets
unfoldable pub header_len_v4 : List ℕ → ℕ
header_len_v4 octets = 4 * (slice_index octets 0 % 16)

-- Total Length: octets 2 and 3
unfoldable pub total_len_v4 : List ℕ → ℕ
total_len_v4 octets = number octets 2 2

-- Fragment Offset: the lower 13 bits of octets 6 and 7
unfoldable pub fragment_offset_v4 : List ℕ → ℕ
fragment_offset_v4 octets = number octets 6 2 % 2 ^ 13

-- TCP, UDP and SCTP begin with their ports (RFC 9293, RFC 768, RFC 9260)
abbrev pub carries_ports : ℕ → Bool
carries_ports proto = (proto == 6) || ((proto == 17) || (proto == 132))

-- the ports are the first four octets of the payload, the source first
unfoldable pub ports_in : ℕ → List ℕ → Option Ports
ports_in proto payload =
    if carries_ports proto && nat_le 4 (length payload)
    then Some (record { src = number payload 0 2; dst = number payload 2 2 })
    else None

-- what lies between the header and the total length
abbrev pub payload_v4 : List ℕ → List ℕ
payload_v4 octets = slice_range octets (header_len_v4 octets) (total_len_v4 octets)

-- Protocol is octet 9, Source Address octets 12 to 15, Destination Address octets 16 to 19; the DSCP is
-- the upper six bits of octet 1 (RFC 2474, clause 3)
unfoldable pub header_v4 : Dir → List ℕ → Header
header_v4 dir octets = record {
  dir = dir;
  src = V4 (number octets 12 4);
  dst = V4 (number octets 16 4);
  proto = slice_index octets 9;
  ports = if fragment_offset_v4 octets == 0 then ports_in (slice_index octets 9) (payload_v4 octets) else None;
  octets = total_len_v4 octets;
  dscp = slice_index octets 1 / 4;
}

-- the faults of version 4, in their order (own choice)
abbrev pub faults_v4 : List ℕ → List FaultWhen
faults_v4 octets =
    (nat_lt (length octets) 20 ⇒ fault.ShortHeader) ∷
    (nat_lt (header_len_v4 octets) 20 ⇒ fault.BadHeaderLength) ∷
    (nat_lt (length octets) (header_len_v4 octets) ⇒ fault.BadHeaderLength) ∷
    (nat_lt (total_len_v4 octets) (header_len_v4 octets) ⇒ fault.BadTotalLength) ∷
    (nat_lt (length octets) (total_len_v4 octets) ⇒ fault.BadTotalLength) ∷ []

-- ---- version 6: RFC 8200, clause 3
-- the fixed header and what Payload Length, octets 4 and 5, counts behind it
unfoldable pub volume_v6 : List ℕ → ℕ
volume_v6 octets = 40 + number octets 4 2

-- Next Header is octet 6: the kind of what stands behind the fixed header
abbrev pub first_kind : List ℕ → ℕ
first_kind octets = slice_index octets 6

unfoldable pub behind_fixed : List ℕ → List ℕ
behind_fixed octets = slice_range octets 40 (volume_v6 octets)

-- Source Address is octets 8 to 23, Destination Address octets 24 to 39; the DSCP is the upper six bits
-- of Traffic Class, which stands behind the four bits of Version (RFC 2474, clause 3)
unfoldable pub header_v6 : Dir → List ℕ → Carried → Header
header_v6 dir octets carried = record {
  dir = dir;
  src = V6 (number octets 8 16);
  dst = V6 (number octets 24 16);
  proto = carried.proto;
  ports = if carried.begins then ports_in carried.proto carried.payload else None;
  octets = volume_v6 octets;
  dscp = number octets 0 2 / 64 % 64;
}

-- the octets begin with a whole packet of version 6, and this is its header
pub record IsHeaderV6 (dir : Dir) (octets : List ℕ) (header : Header) : Type 0 where
  pub fixed : 40 ≤ length octets
  pub given : volume_v6 octets ≤ length octets
  pub carried : Carried
  pub carries : IsCarried (first_kind octets) (behind_fixed octets) carried
  pub is : header ≡ header_v6 dir octets carried

-- the octets don't begin with a whole packet of version 6, and this is the first reason (own choice)
abbrev pub IsFaultV6 : List ℕ → PacketFault → Type 0
IsFaultV6 octets fault.Empty = ⊥
IsFaultV6 octets fault.Version = ⊥
IsFaultV6 octets fault.ShortHeader = length octets < 40
IsFaultV6 octets fault.BadTotalLength = (40 ≤ length octets) × (length octets < volume_v6 octets)
IsFaultV6 octets fault.BadHeaderLength =
    (40 ≤ length octets) × (volume_v6 octets ≤ length octets) × IsCut (first_kind octets) (behind_fixed octets)

-- the same as a function
abbrev pub header_carrying : Dir → List ℕ → Option Carried → Result Header PacketFault
header_carrying dir octets None = Err fault.BadHeaderLength
header_carrying dir octets (Some carried) = Ok (header_v6 dir octets carried)

unfoldable pub reading_v6 : Dir → List ℕ → Result Header PacketFault
reading_v6 dir octets =
    if nat_lt (length octets) 40 then Err fault.ShortHeader
    else if nat_lt (length octets) (volume_v6 octets) then Err fault.BadTotalLength
    else header_carrying dir octets (carried_in (first_kind octets) (behind_fixed octets))

-- ---- any version
abbrev pub header_of : Dir → List ℕ → Result Header PacketFault
header_of dir octets =
    if length octets == 0 then Err fault.Empty
    else if version octets == 4 then header_unless (faults_v4 octets) (header_v4 dir octets)
    else if version octets == 6 then reading_v6 dir octets
    else Err fault.Version
