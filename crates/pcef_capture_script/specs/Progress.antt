-- How far a capture is written: for private clauses.
use Rattle.std.specs.Prelude.{◌≡◌, ◌<◌, ◌≤◌, ◌⊎◌, ℕ, Bool, List, [], ◌++◌, length, Option, Some, Result, IfOk}
use Rattle.std.specs.Io.KnownBytes.{Consumes, IsAtEnd, Keeps}
use Rattle.pcef_packet.specs.declared.header.Addr.{Addr}
use Rattle.pcef_capture_file.specs.Captured.{Captured}
use Rattle.pcef_capture_file.specs.Captures.{ReadsCapture}
use Rattle.pcef_capture_file.specs.Places.{Place, ReadsOn}
use Rattle.pcef_capture_file.specs.declared.fault.CaptureFault.{CaptureFault}
use Rattle.pcef_capture_file.specs.declared.stop.Stop.{Stop}
use Rattle.pcef_capture_file.specs.declared.stop.Stop.TheVariants as stop
use Rattle.pcef_capture_script.specs.Scripts.{Rota}
use Rattle.pcef_capture_script.specs.Turns.{WroteSoFar}
use Rattle.pcef_capture_script.specs.Writing.{WritesScriptFront}
use Rattle.pcef_capture_script.specs.declared.end.End.{End}
use Rattle.pcef_capture_script.specs.declared.end.End.TheVariants as «end»
use Rattle.pcef_capture_script.specs.declared.plan.Plan.{Plan}
use Rattle.pcef_capture_script.specs.declared.writing.Written.{Written}

-- these frames were read of the octets, and behind them the rest is read from this place on
abbrev pub Reached : List ℕ → List Captured → Place → List ℕ → Type 0
Reached input frames place rest =
    (more : List ℕ) (packets : List Captured) (fault : Option CaptureFault)
    → ReadsOn place (rest ++ more) packets fault
    → ReadsCapture (input ++ more) (frames ++ packets) fault

-- such is the state after some octets, whose lines were written from `start` on
abbrev pub IsWrittenAfter : Addr → Bool → Rota → Option (List ℕ) → Option (List ℕ) → Written → Place → List ℕ → List ℕ → Type 0
IsWrittenAfter ue pads rota start now written place rest input =
    (frames : List Captured) × Reached input frames place rest × WroteSoFar ue pads rota frames start now written.turn written.counts

-- a front of the script for the frames of these octets
abbrev pub WroteLinesFront : Addr → Bool → Rota → Option (List ℕ) → Option (List ℕ) → List ℕ → Type 0
WroteLinesFront ue pads rota start now input =
    (frames : List Captured) × (fault : Option CaptureFault) × ReadsCapture input frames fault × WritesScriptFront ue pads rota frames start now

-- the lines of all whole frames are written, and this is why there are no more
abbrev pub Paused : Addr → Bool → Rota → Option (List ℕ) → Option (List ℕ) → Written → Place → Stop → List ℕ → List ℕ → Type 0
Paused ue pads rota start now written place (stop.Waits fault) rest input =
    IsWrittenAfter ue pads rota start now written place rest input × ReadsOn place rest [] fault
Paused ue pads rota start now written place (stop.Fault fault) rest input =
    (frames : List Captured) × ((more : List ℕ) → ReadsCapture (input ++ more) frames (Some fault))
    × WroteSoFar ue pads rota frames start now written.turn written.counts
Paused ue pads rota start now written place stop.NoMemory rest input = WroteLinesFront ue pads rota start now input

-- the writer failed, or memory ran out
abbrev pub IsWriteEnd : End → Type 0
IsWriteEnd («end».Write error) = Unit {0}
IsWriteEnd «end».NoMemory = Unit {0}
IsWriteEnd other = ⊥

-- more octets were read, or none at the end; where the reader fails none were
abbrev pub ReadsMore : Result ℕ End → Option (List ℕ) → Option (List ℕ) → List ℕ → List ℕ → Type 0
ReadsMore result before left old new =
    IfOk result (λ n. (block : List ℕ) × Consumes before left block × (new ≡ old ++ block) × (length block ≡ n) × (n ≡ 0 → IsAtEnd left))

-- the front of the input is there: enough of it, or all
abbrev pub ReadsFront : Option (List ℕ) → Option (List ℕ) → List ℕ → Type 0
ReadsFront before left front = Consumes before left front × (IsAtEnd left ⊎ (24 ≤ length front))

-- what the reader's failure left
abbrev pub FailsToRead : End → Option (List ℕ) → Option (List ℕ) → Type 0
FailsToRead («end».Read error) before left = Keeps before left
FailsToRead «end».NoMemory before left = (block : List ℕ) × Consumes before left block
FailsToRead other before left = ⊥

-- and before the front was there
abbrev pub FailsInFront : End → Option (List ℕ) → Option (List ℕ) → Type 0
FailsInFront («end».Read error) before left = (front : List ℕ) × Consumes before left front × (length front < 24)
FailsInFront «end».NoMemory before left = (front : List ℕ) × Consumes before left front
FailsInFront other before left = ⊥

-- who takes what, by the plan
abbrev pub rota_of : Plan → Rota
rota_of plan = record { workers = plan.workers; batch = plan.batch }
