-- Where the reading of a capture stands, and the packets of the octets from there on.
use Rattle.std.specs.Prelude.{◌≡◌, ℕ, List, Option}
use Rattle.pcef_capture_file.specs.Captured.{Captured, Reads}
use Rattle.pcef_capture_file.specs.Classic.{record_of}
use Rattle.pcef_capture_file.specs.PcapNg.{ReadsBlocks, packets_among}
use Rattle.pcef_capture_file.specs.Sections.{SectionState}
use Rattle.pcef_capture_file.specs.declared.classic.FileHeader.{FileHeader}
use Rattle.pcef_capture_file.specs.declared.fault.CaptureFault.{CaptureFault}

-- among the records behind the header of a classic file, or among the blocks of a pcapng file
pub data Place : Type 0 where
  in_records : FileHeader → Place
  in_blocks : SectionState → Place

-- from here on the octets have these packets, up to their end or to this fault
abbrev pub ReadsOn : Place → List ℕ → List Captured → Option CaptureFault → Type 0
ReadsOn (in_records header) octets packets fault = Reads (record_of header) octets packets fault
ReadsOn (in_blocks s) octets packets fault =
    (found : List (Option Captured)) × ReadsBlocks s octets found fault × (packets ≡ packets_among found)
