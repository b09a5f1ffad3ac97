-- What the octets at hand say of a capture whose octets come in parts, whatever follows them (own choice).
use Rattle.std.specs.Prelude.{◌≡◌, ◌<◌, ℕ, List, [], ◌∷◌, ◌++◌, drop, length, Option, Some, Err, IsTrue}
use Rattle.pcef_capture_file.specs.Blocks.{begins_section, most_block}
use Rattle.pcef_capture_file.specs.Captured.{Captured}
use Rattle.pcef_capture_file.specs.Captures.{ReadsCapture}
use Rattle.pcef_capture_file.specs.Classic.{file_header_of}
use Rattle.pcef_capture_file.specs.PcapNg.{packets_among}
use Rattle.pcef_capture_file.specs.Places.{Place, ReadsOn}
use Rattle.pcef_capture_file.specs.declared.fault.CaptureFault.{CaptureFault}
use Rattle.pcef_capture_file.specs.declared.stop.Stop.{Stop}
use Rattle.pcef_capture_file.specs.declared.stop.Stop.TheVariants.{Waits, Fault, NoMemory}

-- some octets at the front were read, and these stand behind them
abbrev pub StandsBehind : List ℕ → List ℕ → Type 0
StandsBehind octets rest = (taken : ℕ) × (rest ≡ drop taken octets)

-- ---- the front of a capture
-- the header of a classic file is at fault, so the file has no packets
abbrev pub IsFileRefused : List ℕ → CaptureFault → Type 0
IsFileRefused octets fault = (¬ IsTrue (begins_section octets)) × (file_header_of octets ≡ Err fault)

-- whatever follows, what is read behind the front is what the capture has
abbrev pub OpensCapture : List ℕ → Place → List ℕ → Type 0
OpensCapture octets place rest =
    (more : List ℕ) (packets : List Captured) (fault : Option CaptureFault)
    → ReadsOn place (rest ++ more) packets fault
    → ReadsCapture (octets ++ more) packets fault

-- ---- a record or a block
-- whatever follows, a packet or none stands here, and then what is read behind it
abbrev pub CaptureGoesOn : Place → List ℕ → Option Captured → Place → List ℕ → Type 0
CaptureGoesOn before octets packet after rest =
    (more : List ℕ) (packets : List Captured) (fault : Option CaptureFault)
    → ReadsOn after (rest ++ more) packets fault
    → ReadsOn before (octets ++ more) (packets_among (packet ∷ []) ++ packets) fault

-- No record or block of the octets at hand is whole: if no more follow, they end so. They are never more than a
-- block may have. Or what stands here is at fault, whatever follows.
abbrev pub Stops : Place → List ℕ → Stop → Place → Type 0
Stops before octets (Waits fault) after =
    ReadsOn before octets [] fault × (length octets < most_block) × (after ≡ before)
Stops before octets (Fault fault) after = (more : List ℕ) → ReadsOn before (octets ++ more) [] (Some fault)
Stops before octets NoMemory after = Unit {0}
