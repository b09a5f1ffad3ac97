-- What is written for the frames of a file.
use Rattle.std.specs.Prelude.{◌≡◌, ℕ, Bool, List, Option}
use Rattle.std.specs.Io.KnownBytes.{Appends}
use Rattle.pcef_packet.specs.declared.header.Addr.{Addr}
use Rattle.pcef_capture_file.specs.Captured.{Captured}
use Rattle.pcef_capture_script.specs.Counting.{counts_of}
use Rattle.pcef_capture_script.specs.Fates.{AreFates, Fate, items_of, outcomes_of}
use Rattle.pcef_capture_script.specs.Scripts.{Rota, take_lines, script_of}
use Rattle.pcef_capture_script.specs.declared.counts.Counts.{Counts}
use Rattle.pcef_base.specs.Writing.{AppendsFront}

-- the script for the packets that have a line, in the order of the frames; and every frame is counted
abbrev pub WritesTakes : Addr → Bool → Rota → List Captured → Option (List ℕ) → Option (List ℕ) → Counts → Type 0
WritesTakes ue pads rota frames old new counts =
    (fates : List Fate) × AreFates ue pads frames fates × Appends old new (script_of rota (items_of fates)) × (counts ≡ counts_of (outcomes_of fates))

-- a front of the script for the packets that have a line
abbrev pub WritesScriptFront : Addr → Bool → Rota → List Captured → Option (List ℕ) → Option (List ℕ) → Type 0
WritesScriptFront ue pads rota frames old new =
    (fates : List Fate) × AreFates ue pads frames fates × AppendsFront old new (script_of rota (items_of fates))

-- the lines for the packets that have one; more may come
abbrev pub WritesLines : Addr → Bool → Rota → List Captured → Option (List ℕ) → Option (List ℕ) → Type 0
WritesLines ue pads rota frames old new =
    (fates : List Fate) × AreFates ue pads frames fates × Appends old new (take_lines rota (items_of fates))
