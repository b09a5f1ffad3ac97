-- What is written for a capture while it is read (own choice).
use Rattle.std.specs.Prelude.{◌<◌, ◌⊎◌, ℕ, Bool, List, [], ◌++◌, length, Option, Result, Ok, Err}
use Rattle.std.specs.Io.KnownBytes.{Appends, Consumes, IsAtEnd}
use Rattle.pcef_packet.specs.declared.header.Addr.{Addr}
use Rattle.pcef_capture_file.specs.Captured.{Captured}
use Rattle.pcef_capture_file.specs.Captures.{ReadsCapture}
use Rattle.pcef_capture_file.specs.Streams.{IsFileRefused}
use Rattle.pcef_capture_file.specs.declared.fault.CaptureFault.{CaptureFault}
use Rattle.pcef_capture_script.specs.Scripts.{Rota}
use Rattle.pcef_capture_script.specs.Writing.{WritesScriptFront, WritesLines, WritesTakes}
use Rattle.pcef_capture_script.specs.declared.counts.Counts.{Counts}
use Rattle.pcef_capture_script.specs.declared.end.End.{End}
use Rattle.pcef_capture_script.specs.declared.end.End.TheVariants as «end»

-- This holds of the octets that were read, and those that are left change nothing: there are none, or it holds
-- whatever follows.
abbrev pub Lasts : Option (List ℕ) → (List ℕ → Type 0) → List ℕ → Type 0
Lasts left P input = P input × (IsAtEnd left ⊎ ((more : List ℕ) → P (input ++ more)))

-- the frames of the octets so far have their lines, and there are no other lines; within the header of a file there
-- are none
abbrev pub WroteSoMuch : Addr → Bool → Rota → List ℕ → Option (List ℕ) → Option (List ℕ) → Type 0
WroteSoMuch ue pads rota input old new =
    ((frames : List Captured) × (fault : Option CaptureFault) × ReadsCapture input frames fault × WritesLines ue pads rota frames old new)
    ⊎ ((length input < 24) × Appends old new [])

-- a front of the script for these frames, or nothing
abbrev pub WroteFrontOf : Addr → Bool → Rota → List ℕ → Option (List ℕ) → Option (List ℕ) → Type 0
WroteFrontOf ue pads rota input old new =
    ((frames : List Captured) × (fault : Option CaptureFault) × ReadsCapture input frames fault × WritesScriptFront ue pads rota frames old new)
    ⊎ Appends old new []

-- What was written for the octets that were read. At the end of the capture, or at its fault, it is the script for its
-- frames. Where the header of a classic file is at fault, nothing is written. Where the reader fails, the lines of all
-- frames so far are written; it may fail at any time, so they always are written before more is read. Where the writer
-- fails or memory runs out, a front of the script is written.
abbrev pub WroteCapture : Addr → Bool → Rota → Result (Counts × Option CaptureFault) End → Option (List ℕ) → List ℕ → Option (List ℕ) → Option (List ℕ) → Type 0
WroteCapture ue pads rota (Ok ended) left input old new =
    (frames : List Captured) × Lasts left (λ octets. ReadsCapture octets frames ended.1) input × WritesTakes ue pads rota frames old new ended.0
WroteCapture ue pads rota (Err («end».Capture fault)) left input old new =
    Lasts left (λ octets. IsFileRefused octets fault) input × Appends old new []
WroteCapture ue pads rota (Err («end».Read error)) left input old new = WroteSoMuch ue pads rota input old new
WroteCapture ue pads rota (Err other) left input old new = WroteFrontOf ue pads rota input old new

-- from a reader with `before` still to come and a writer with `old` written, to `left` and `new`
abbrev pub WritesCapture : Addr → Bool → Rota → Result (Counts × Option CaptureFault) End → Option (List ℕ) → Option (List ℕ) → Option (List ℕ) → Option (List ℕ) → Type 0
WritesCapture ue pads rota result before left old new =
    (input : List ℕ) × Consumes before left input × WroteCapture ue pads rota result left input old new
