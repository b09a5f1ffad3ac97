-- The savefile format of libpcap (pcap-savefile(5); draft-ietf-opsawg-pcap, clauses 4 and 5).
use Rattle.std.specs.Prelude.{ℕ, ◌%◌, ◌^◌, ◌==◌, ◌&&◌, nat_lt, Bool, List, length, drop, Option, Some, None, Result, Ok, Err, if◌then◌else◌}
use Rattle.pcef_base.specs.Readings.{◌>>=◌, or_fault}
use Rattle.pcef_capture_file.specs.Captured.{Captured, packet_front}
use Rattle.pcef_capture_file.specs.Links.{link_of}
use Rattle.pcef_capture_file.specs.Numbers.{number_by}
use Rattle.pcef_capture_file.specs.Times.{classic_time}
use Rattle.pcef_capture_file.specs.declared.classic.FileHeader.{FileHeader}
use Rattle.pcef_capture_file.specs.declared.classic.TimeScale.{TimeScale}
use Rattle.pcef_capture_file.specs.declared.classic.TimeScale.TheVariants.{Microseconds, Nanoseconds}
use Rattle.pcef_capture_file.specs.declared.endianness.Endianness.{Endianness}
use Rattle.pcef_capture_file.specs.declared.endianness.Endianness.TheVariants.{Big, Little}
use Rattle.pcef_capture_file.specs.declared.fault.CaptureFault.{CaptureFault}
use Rattle.pcef_capture_file.specs.declared.fault.CaptureFault.TheVariants as fault
use Rattle.pcef_capture_file.specs.declared.packet.Stated.{Stated}

-- The first four octets are 0xA1B2C3D4 or 0xA1B23C4D, in the order of the file.
unfoldable pub magic_of : List ℕ → Option (Endianness × TimeScale)
magic_of octets =
    if nat_lt (length octets) 4 then None
    else if number_by Big octets 0 4 == 2712847316 then Some (Big, Microseconds)
    else if number_by Big octets 0 4 == 2712812621 then Some (Big, Nanoseconds)
    else if number_by Little octets 0 4 == 2712847316 then Some (Little, Microseconds)
    else if number_by Little octets 0 4 == 2712812621 then Some (Little, Nanoseconds)
    else None

-- the version stands in octets 4 to 7, two numbers
unfoldable pub has_version : Endianness → List ℕ → Bool
has_version e octets = (number_by e octets 4 2 == 2) && (number_by e octets 6 2 == 4)

-- the link type is the lower half of octets 20 to 23
unfoldable pub link_number : Endianness → List ℕ → ℕ
link_number e octets = number_by e octets 20 4 % 2 ^ 16

unfoldable pub header_behind : Endianness → TimeScale → List ℕ → Result FileHeader CaptureFault
header_behind e scale octets =
    if nat_lt (length octets) 24 then Err fault.CutHeader
    else if has_version e octets
    then or_fault fault.LinkType (link_of (link_number e octets)) >>= (λ link. Ok (record { endianness = e; scale = scale; link = link }))
    else Err fault.Version

unfoldable pub file_header_of : List ℕ → Result FileHeader CaptureFault
file_header_of octets = or_fault fault.NotACapture (magic_of octets) >>= (λ magic. header_behind magic.0 magic.1 octets)

-- octets 8 to 11 of a record's header are the length of the packet behind it
unfoldable pub recorded_len : Endianness → List ℕ → ℕ
recorded_len e octets = number_by e octets 8 4

-- octets 0 to 3 are the seconds of its time, octets 4 to 7 the fraction beside them, and octets 12 to 15 the length that
-- the packet had on the line
unfoldable pub stated_in : FileHeader → List ℕ → Stated
stated_in header octets = record {
  original = number_by header.endianness octets 12 4;
  time = Some (classic_time header.scale (number_by header.endianness octets 0 4) (number_by header.endianness octets 4 4));
}

-- the most octets of a packet: as many as tcpdump ever records of one, and a longer one is no packet to it either
abbrev pub most_packet : ℕ
most_packet = 262144

-- a record: a header of 16 octets, and the packet
unfoldable pub record_of : FileHeader → List ℕ → Result (Captured × List ℕ) CaptureFault
record_of header octets =
    if nat_lt (length octets) 16 then Err fault.CutRecord
    else if nat_lt most_packet (recorded_len header.endianness octets) then Err fault.TooLong
    else packet_front header.link header.endianness (recorded_len header.endianness octets) (stated_in header octets) (drop 16 octets)
