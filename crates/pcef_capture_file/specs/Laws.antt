-- Laws of the definitions.
use Rattle.std.specs.Prelude.{◌≡◌, ℕ, List, Option}
use Rattle.pcef_capture_file.specs.Captured.{Captured, Reads}
use Rattle.pcef_capture_file.specs.Captures.{ReadsCapture}
use Rattle.pcef_capture_file.specs.Classic.{record_of}
use Rattle.pcef_capture_file.specs.declared.classic.FileHeader.{FileHeader}
use Rattle.pcef_capture_file.specs.declared.fault.CaptureFault.{CaptureFault}

-- the records of a classic file have these packets and this fault, and no others
abbrev pub OneReading : Type 0
OneReading =
    (header : FileHeader) (octets : List ℕ) (packets others : List Captured) (fault other : Option CaptureFault)
    → Reads (record_of header) octets packets fault
    → Reads (record_of header) octets others other
    → (packets ≡ others) × (fault ≡ other)

-- the same of a file in either format
abbrev pub OneCapture : Type 0
OneCapture =
    (octets : List ℕ) (packets others : List Captured) (fault other : Option CaptureFault)
    → ReadsCapture octets packets fault
    → ReadsCapture octets others other
    → (packets ≡ others) × (fault ≡ other)
