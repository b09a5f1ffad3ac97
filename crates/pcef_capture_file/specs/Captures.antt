-- What it means that packets are those of a capture file, in either format.
use Rattle.std.specs.Prelude.{ℕ, List, drop, Bool, true, false, Option, IsOkAnd}
use Rattle.pcef_capture_file.specs.Blocks.{begins_section}
use Rattle.pcef_capture_file.specs.Captured.{Captured, Reads}
use Rattle.pcef_capture_file.specs.Classic.{file_header_of, record_of}
use Rattle.pcef_capture_file.specs.PcapNg.{ReadsFile}
use Rattle.pcef_capture_file.specs.declared.fault.CaptureFault.{CaptureFault}

-- of a classic file: those of the records behind its header
abbrev pub ReadsClassic : List ℕ → List Captured → Option CaptureFault → Type 0
ReadsClassic octets packets fault =
    IsOkAnd (file_header_of octets) (λ header. Reads (record_of header) (drop 24 octets) packets fault)

-- a file that begins as a section does is of the format pcapng
abbrev pub ReadsAs : Bool → List ℕ → List Captured → Option CaptureFault → Type 0
ReadsAs true = ReadsFile
ReadsAs false = ReadsClassic

abbrev pub ReadsCapture : List ℕ → List Captured → Option CaptureFault → Type 0
ReadsCapture octets = ReadsAs (begins_section octets) octets
