-- Packets in the blocks of a pcapng file (draft-ietf-opsawg-pcapng, clauses 4.3, 4.4 and A).
use Rattle.std.specs.Prelude.{ℕ, ◌+◌, ◌*◌, ◌^◌, ◌==◌, nat_lt, min, List, length, drop, slice_get, Option, Some, None, Result, Ok, Err, if◌then◌else◌}
use Rattle.pcef_base.specs.Readings.{◌>>=◌, or_fault}
use Rattle.pcef_capture_file.specs.Blocks.{Framed}
use Rattle.pcef_capture_file.specs.Captured.{Captured, packet_front}
use Rattle.pcef_capture_file.specs.Numbers.{number_by}
use Rattle.pcef_capture_file.specs.Times.{time_of}
use Rattle.pcef_capture_file.specs.declared.fault.CaptureFault.{CaptureFault}
use Rattle.pcef_capture_file.specs.declared.fault.CaptureFault.TheVariants as fault
use Rattle.pcef_capture_file.specs.declared.packet.Stated.{Stated}
use Rattle.pcef_capture_file.specs.declared.section.Interface.{Interface}

-- the interface of a number, from 0 on in the order of the descriptions
unfoldable pub interface_at : List Interface → ℕ → Result Interface CaptureFault
interface_at interfaces n = or_fault fault.UnknownInterface (slice_get interfaces n)

-- the packet that the body has from a place on
unfoldable pub packet_in : Framed → Interface → ℕ → Stated → ℕ → Result Captured CaptureFault
packet_in block interface recorded stated place =
    packet_front interface.link block.endianness recorded stated (drop place block.body) >>= (λ found. Ok found.0)

-- octets 4 to 7 are the upper half of the time, in units of the interface's clock, and octets 8 to 11 the lower one
unfoldable pub units_in : Framed → ℕ
units_in block = number_by block.endianness block.body 4 4 * 2 ^ 32 + number_by block.endianness block.body 8 4

-- the packet behind 20 octets, of the interface of a number: octets 12 to 15 are the recorded length, and octets
-- 16 to 19 the length on the line
unfoldable pub behind_lengths : List Interface → Framed → ℕ → Result Captured CaptureFault
behind_lengths interfaces block n =
    interface_at interfaces n
    >>= (λ interface. packet_in block interface (number_by block.endianness block.body 12 4) (record { original = number_by block.endianness block.body 16 4; time = time_of interface.clock (units_in block) }) 20)

-- an enhanced packet block states its interface in octets 0 to 3
unfoldable pub enhanced_in : List Interface → Framed → Result Captured CaptureFault
enhanced_in interfaces block =
    if nat_lt (length block.body) 20 then Err fault.BlockLength
    else behind_lengths interfaces block (number_by block.endianness block.body 0 4)

-- an obsolete packet block states it in octets 0 and 1
unfoldable pub obsolete_in : List Interface → Framed → Result Captured CaptureFault
obsolete_in interfaces block =
    if nat_lt (length block.body) 20 then Err fault.BlockLength
    else behind_lengths interfaces block (number_by block.endianness block.body 0 2)

-- the length that is recorded of a frame; 0 is no limit
unfoldable pub snapped : ℕ → ℕ → ℕ
snapped snap_len line = if snap_len == 0 then line else min snap_len line

-- A simple packet block has 4 octets with the length on the line, and then its packet, which is of the first
-- interface. It has no time.
unfoldable pub simple_in : List Interface → Framed → Result Captured CaptureFault
simple_in interfaces block =
    if nat_lt (length block.body) 4 then Err fault.BlockLength
    else interface_at interfaces 0
    >>= (λ interface. packet_in block interface (snapped interface.snap_len (number_by block.endianness block.body 0 4)) (record { original = number_by block.endianness block.body 0 4; time = None }) 4)

-- the packet in a block, if its type is that of an enhanced, a simple or an obsolete packet block
unfoldable pub block_packet : List Interface → Framed → Result (Option Captured) CaptureFault
block_packet interfaces block =
    if block.kind == 6 then enhanced_in interfaces block >>= (λ packet. Ok (Some packet))
    else if block.kind == 3 then simple_in interfaces block >>= (λ packet. Ok (Some packet))
    else if block.kind == 2 then obsolete_in interfaces block >>= (λ packet. Ok (Some packet))
    else Ok None
