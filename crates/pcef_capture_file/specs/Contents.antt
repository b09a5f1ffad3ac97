-- What a frame is for the session of an address.
use Rattle.std.specs.Prelude.{◌≡◌, ◌≢◌, ◌<◌, ◌≤◌, ◌⊎◌, ℕ, List, length, Some, None, Ok, Err}
use Rattle.pcef_packet.specs.declared.header.Addr.{Addr}
use Rattle.pcef_packet.specs.declared.header.PacketFault.{PacketFault}
use Rattle.pcef_packet.specs.declared.header.PacketFault.TheVariants as fault
use Rattle.pcef_capture_file.specs.Captured.{Captured}
use Rattle.pcef_capture_file.specs.Directions.{direction_of_packet}
use Rattle.pcef_capture_file.specs.Frames.{ip_in}
use Rattle.pcef_capture_file.specs.declared.content.Content.{Content}
use Rattle.pcef_capture_file.specs.declared.content.Content.TheVariants.{Packet, Neither, Cut, NotIp}

-- These octets stand where the frame's headers place an IP packet. The version is that of the first of them,
-- whichever the type or family before it states (own choice).
abbrev pub Holds : Captured → List ℕ → Type 0
Holds p octets = ip_in p.link p.endianness p.octets ≡ Some octets

-- fewer octets were recorded than there were on the line
abbrev pub IsCutShort : Captured → Type 0
IsCutShort p = length p.octets < p.original

abbrev pub IsContent : Addr → Captured → Content → Type 0
IsContent ue p (Packet dir octets) = Holds p octets.now × (direction_of_packet ue octets.now ≡ Ok (Some dir))
IsContent ue p Neither = (octets : List ℕ) × Holds p octets × (direction_of_packet ue octets ≡ Ok None)
IsContent ue p (Cut octets) =
    IsCutShort p × Holds p octets.now × (f : PacketFault) × (direction_of_packet ue octets.now ≡ Err f) × (f ≢ fault.Version)
IsContent ue p NotIp =
    (octets : List ℕ) → Holds p octets → (f : PacketFault) × (direction_of_packet ue octets ≡ Err f) × ((f ≡ fault.Version) ⊎ (p.original ≤ length p.octets))
