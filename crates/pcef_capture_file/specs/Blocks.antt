-- Blocks of a pcapng file (draft-ietf-opsawg-pcapng, clauses 3.1 and 4.1).
use Rattle.std.specs.Prelude.{ℕ, ◌-◌, ◌%◌, ◌==◌, ◌&&◌, nat_le, nat_lt, Bool, List, length, take, drop, Option, Some, None, Result, Ok, Err, if◌then◌else◌}
use Rattle.pcef_base.specs.Readings.{◌>>=◌, or_fault}
use Rattle.pcef_capture_file.specs.Numbers.{number_by}
use Rattle.pcef_capture_file.specs.declared.blocks.Block.{Block}
use Rattle.pcef_capture_file.specs.declared.endianness.Endianness.{Endianness}
use Rattle.pcef_capture_file.specs.declared.endianness.Endianness.TheVariants.{Big, Little}
use Rattle.pcef_capture_file.specs.declared.fault.CaptureFault.{CaptureFault}
use Rattle.pcef_capture_file.specs.declared.fault.CaptureFault.TheVariants as fault

-- a block, wherever it lies in memory
pub record Framed : Type 0 where
  pub endianness : Endianness
  pub kind : ℕ
  pub body : List ℕ

abbrev pub framed : Block → Framed
framed block = record { endianness = block.endianness; kind = block.kind; body = block.body.now }

-- a section header begins with 0x0A0D0D0A, which is the same in both orders
unfoldable pub begins_section : List ℕ → Bool
begins_section octets = nat_le 4 (length octets) && (number_by Big octets 0 4 == 168627466)

-- its octets 8 to 11 are 0x1A2B3C4D, in the order of the section
unfoldable pub section_order : List ℕ → Option Endianness
section_order octets =
    if number_by Big octets 8 4 == 439041101 then Some Big
    else if number_by Little octets 8 4 == 439041101 then Some Little
    else None

-- every other block has the order of the section that it stands in
unfoldable pub order_of : Endianness → List ℕ → Result Endianness CaptureFault
order_of e octets = if begins_section octets then or_fault fault.ByteOrder (section_order octets) else Ok e

-- octets 4 to 7 are the length of the whole block, which is a multiple of four and counts the 12 octets
-- round the body
unfoldable pub total_of : Endianness → List ℕ → ℕ
total_of e octets = number_by e octets 4 4

unfoldable pub is_block_len : ℕ → Bool
is_block_len total = nat_le 12 total && (total % 4 == 0)

-- the most octets of a block: libpcap and Wireshark read no longer ones
abbrev pub most_block : ℕ
most_block = 16777216

-- the last four octets of the block say the same
unfoldable pub len_of : Endianness → List ℕ → Result ℕ CaptureFault
len_of e octets =
    if is_block_len (total_of e octets)
    then if nat_lt most_block (total_of e octets) then Err fault.TooLong
    else if nat_lt (length octets) (total_of e octets) then Err fault.CutBlock
    else if number_by e octets (total_of e octets - 4) 4 == total_of e octets then Ok (total_of e octets)
    else Err fault.BlockLength
    else Err fault.BlockLength

-- the block of this length, and what stands behind it: its first four octets are its type
unfoldable pub block_front : Endianness → List ℕ → ℕ → Framed × List ℕ
block_front e octets total =
    (record { endianness = e; kind = number_by e octets 0 4; body = take (total - 12) (drop 8 octets) }, drop total octets)

unfoldable pub block_in : Endianness → List ℕ → Result (Framed × List ℕ) CaptureFault
block_in e octets = len_of e octets >>= (λ total. Ok (block_front e octets total))

-- the block at the front, in a section of this order, and what stands behind it
unfoldable pub block_of : Endianness → List ℕ → Result (Framed × List ℕ) CaptureFault
block_of e octets =
    if nat_lt (length octets) 12 then Err fault.CutBlock
    else order_of e octets >>= (λ order. block_in order octets)
