-- Packets, and what it means that they are those of a file.
use Rattle.std.specs.Prelude.{◌≡◌, ◌<◌, ℕ, nat_lt, List, [], ◌∷◌, length, take, drop, Option, Some, None, Result, Ok, Err, if◌then◌else◌}
use Rattle.pcef_capture_file.specs.declared.endianness.Endianness.{Endianness}
use Rattle.pcef_capture_file.specs.declared.fault.CaptureFault.{CaptureFault}
use Rattle.pcef_capture_file.specs.declared.fault.CaptureFault.TheVariants as fault
use Rattle.pcef_capture_file.specs.declared.link.Link.{Link}
use Rattle.pcef_capture_file.specs.declared.packet.Packet.{Packet}
use Rattle.pcef_capture_file.specs.declared.packet.Stated.{Stated}
use Rattle.pcef_capture_file.specs.declared.time.Time.{Time}

-- a packet, wherever it lies in memory
pub record Captured : Type 0 where
  pub link : Link
  pub endianness : Endianness
  pub original : ℕ
  pub time : Option Time
  pub octets : List ℕ

abbrev pub captured : Packet → Captured
captured p = record { link = p.link; endianness = p.endianness; original = p.original; time = p.time; octets = p.octets.now }

-- the packet whose recorded octets stand at the front, and what stands behind it
unfoldable pub packet_front : Link → Endianness → ℕ → Stated → List ℕ → Result (Captured × List ℕ) CaptureFault
packet_front link e recorded stated octets =
    if nat_lt (length octets) recorded then Err fault.CutPacket
    else Ok (record { link = link; endianness = e; original = stated.original; time = stated.time; octets = take recorded octets }, drop recorded octets)

-- The octets are records with these packets, one after another: up to the end where there is no fault,
-- else up to a record at fault.
abbrev pub Reads : (List ℕ → Result (Captured × List ℕ) CaptureFault) → List ℕ → List Captured → Option CaptureFault → Type 0
Reads record_of octets [] None = octets ≡ []
Reads record_of octets [] (Some fault) = (0 < length octets) × (record_of octets ≡ Err fault)
Reads record_of octets (packet ∷ packets) fault = (rest : List ℕ) × (record_of octets ≡ Ok (packet, rest)) × Reads record_of rest packets fault
