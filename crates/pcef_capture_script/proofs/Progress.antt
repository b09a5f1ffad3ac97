-- How far a capture is written.
use Rattle.std.proofs.Common.{◌≡◌, ◌<◌, ◌∙◌, ◌-◌, ◌++◌, inl, inr, ℕ, Bool, List, [], ◌∷◌, length, drop, Option, Some, Result, Ok, Err, sym, ap, subst, arith, append_assoc, append-nil, length-drop}
use Rattle.std.specs.Prelude.{IfErr, IfOk}
use Rattle.std.specs.Io.KnownBytes.{Appends, Consumes, IsAtEnd, Keeps}
use Rattle.std.proofs.KnownBytes.{Appends-kept, Consumes-kept, Consumes-trans}
use Rattle.std.proofs.lemmas.Bool.{cases_lt}
use Rattle.std.proofs.lemmas.List.{drop_all}
use Rattle.pcef_packet.specs.declared.header.Addr.{Addr}
use Rattle.pcef_capture_file.specs.Captured.{Captured}
use Rattle.pcef_capture_file.specs.Captures.{ReadsCapture}
use Rattle.pcef_capture_file.specs.PcapNg.{packets_among}
use Rattle.pcef_capture_file.specs.Places.{Place, ReadsOn}
use Rattle.pcef_capture_file.specs.Streams.{CaptureGoesOn, StandsBehind, Stops}
use Rattle.pcef_capture_file.specs.declared.fault.CaptureFault.{CaptureFault}
use Rattle.pcef_capture_file.specs.declared.stop.Stop.{Stop}
use Rattle.pcef_capture_file.specs.declared.stop.Stop.TheVariants as stop
use Rattle.pcef_capture_file.proofs.Totality.{reads_there}
use Rattle.pcef_base.specs.Writing.{AppendsFront}
use Rattle.pcef_capture_script.specs.Progress.{FailsInFront, FailsToRead, IsWrittenAfter, IsWriteEnd, Paused, Reached, WroteLinesFront}
use Rattle.pcef_capture_script.specs.Scripts.{Rota}
use Rattle.pcef_capture_script.specs.Streams.{WritesCapture, WroteCapture, WroteFrontOf, WroteSoMuch}
use Rattle.pcef_capture_script.specs.Turns.{WroteSoFar, rest_flush}
use Rattle.pcef_capture_script.specs.Writing.{WritesScriptFront}
use Rattle.pcef_capture_script.specs.declared.counts.Counts.{Counts}
use Rattle.pcef_capture_script.specs.declared.end.End.{End}
use Rattle.pcef_capture_script.specs.declared.end.End.TheVariants as «end»
use Rattle.pcef_capture_script.specs.declared.turn.Turn.{Turn}
use Rattle.pcef_capture_script.specs.declared.writing.Written.{Written}
use Rattle.pcef_capture_script.proofs.Fronts.{rest_front, so_far_front, takes_done}

-- ---- frames
-- one record or block more
pub goes_further : (input : List ℕ) (frames : List Captured) (place after : Place) (rest others : List ℕ) (p : Option Captured)
    → Reached input frames place rest → CaptureGoesOn place rest p after others → Reached input (frames ++ packets_among (p ∷ [])) after others
goes_further input frames place after rest others p reached goes more packets fault read =
    let found = packets_among (p ∷ []) in
    subst (λ t. ReadsCapture (input ++ more) t fault) (sym (append_assoc frames found packets)) (reached more (found ++ packets) fault (goes more packets fault read))

-- more octets were read
comes_further : (input block : List ℕ) (frames : List Captured) (place : Place) (rest : List ℕ) → Reached input frames place rest → Reached (input ++ block) frames place (rest ++ block)
comes_further input block frames place rest reached more packets fault read =
    subst (λ t. ReadsCapture t (frames ++ packets) fault) (sym (append_assoc input block more))
    (reached (block ++ more) packets fault (subst (λ t. ReadsOn place t packets fault) (append_assoc rest block more) read))

-- the octets so far have a reading, which begins with these frames
pub read_of : (input : List ℕ) (frames : List Captured) (place : Place) (rest : List ℕ) → Reached input frames place rest
    → (others : List Captured) × (fault : Option CaptureFault) × ReadsCapture input (frames ++ others) fault
read_of input frames place rest reached =
    let there = reads_there place rest in
    let read = subst (λ t. ReadsOn place t there.0 there.1) (sym (append-nil rest)) there.2 in
    (there.0, there.1, subst (λ t. ReadsCapture t (frames ++ there.0) there.1) (append-nil input) (reached [] there.0 there.1 read))

-- no frame stands whole in the rest
read_all : (input : List ℕ) (frames : List Captured) (place : Place) (rest : List ℕ) (fault : Option CaptureFault) → Reached input frames place rest → ReadsOn place rest [] fault
    → ReadsCapture input frames fault
read_all input frames place rest fault reached none =
    let read = subst (λ t. ReadsOn place t [] fault) (sym (append-nil rest)) none in
    subst (λ t. ReadsCapture t frames fault) (append-nil input) (subst (λ ps. ReadsCapture (input ++ []) ps fault) (append-nil frames) (reached [] [] fault read))

-- what stands here is at fault
fault_all : (input : List ℕ) (frames : List Captured) (place : Place) (rest : List ℕ) (f : CaptureFault) → Reached input frames place rest
    → ((more : List ℕ) → ReadsOn place (rest ++ more) [] (Some f)) → (more : List ℕ) → ReadsCapture (input ++ more) frames (Some f)
fault_all input frames place rest f reached faults more =
    subst (λ ps. ReadsCapture (input ++ more) ps (Some f)) (append-nil frames) (reached more [] (Some f) (faults more))

-- ---- lines
-- what was written so far is a front of the script for the octets so far
pub front_so_far : (ue : Addr) (pads : Bool) (rota : Rota) (start now : Option (List ℕ)) (written : Written) (place : Place) (rest input : List ℕ)
    → IsWrittenAfter ue pads rota start now written place rest input → WroteLinesFront ue pads rota start now input
front_so_far ue pads rota start now written place rest input after =
    let there = read_of input after.0 place rest after.1 in
    (after.0 ++ there.0, there.1, there.2, so_far_front ue pads rota after.0 there.0 start now written.turn written.counts after.2)

pub pauses : (ue : Addr) (pads : Bool) (rota : Rota) (start now : Option (List ℕ)) (written : Written) (place later : Place) (why : Stop) (rest input : List ℕ)
    → IsWrittenAfter ue pads rota start now written place rest input → Stops place rest why later → Paused ue pads rota start now written later why rest input
pauses ue pads rota start now written place later (stop.Waits fault) rest input after stops =
    (subst (λ p. IsWrittenAfter ue pads rota start now written p rest input) (sym stops.2) after, subst (λ p. ReadsOn p rest [] fault) (sym stops.2) stops.0)
pauses ue pads rota start now written place later (stop.Fault f) rest input after stops =
    (after.0, fault_all input after.0 place rest f after.1 stops, after.2)
pauses ue pads rota start now written place later stop.NoMemory rest input after stops =
    front_so_far ue pads rota start now written place rest input after

-- a pause leaves a front of the script written
paused_front : (ue : Addr) (pads : Bool) (rota : Rota) (start now : Option (List ℕ)) (written : Written) (place : Place) (why : Stop) (rest input : List ℕ)
    → Paused ue pads rota start now written place why rest input → WroteLinesFront ue pads rota start now input
paused_front ue pads rota start now written place (stop.Waits fault) rest input paused = front_so_far ue pads rota start now written place rest input paused.0
paused_front ue pads rota start now written place (stop.Fault f) rest input paused =
    let read = subst (λ t. ReadsCapture t paused.0 (Some f)) (append-nil input) (paused.1 []) in
    let front = subst (λ ps. WritesScriptFront ue pads rota ps start now) (append-nil paused.0) (so_far_front ue pads rota paused.0 [] start now written.turn written.counts paused.2) in
    (paused.0, Some f, read, front)
paused_front ue pads rota start now written place stop.NoMemory rest input paused = paused

-- ---- octets that wait
kept_place : (xs : List ℕ) (k : ℕ) → drop (length xs - length (drop k xs)) xs ≡ drop k xs
kept_place xs k =
    elim (cases_lt k (length xs)) [
      | inl lt ↦
          let place : length xs - length (drop k xs) ≡ k = omega (arith, lt, length-drop k xs) in
          ap (λ n. drop n xs) place
      | inr past ↦
          let place : length xs - length (drop k xs) ≡ length xs = omega (arith, past, length-drop k xs) in
          ap (λ n. drop n xs) place ∙ drop_all (length xs) xs (omega arith) ∙ sym (drop_all k xs past)
    ]

-- the octets behind those that were read
pub kept : (octets rest : List ℕ) (len : ℕ) → StandsBehind octets rest → len ≡ length rest → drop (length octets - len) octets ≡ rest
kept octets rest len behind is =
    ap (λ n. drop (length octets - n) octets) (is ∙ ap length behind.1) ∙ kept_place octets behind.0 ∙ sym behind.1

-- ---- the end
pub ends : (ue : Addr) (pads : Bool) (rota : Rota) (e : End) (left old new : Option (List ℕ)) (input : List ℕ) → IsWriteEnd e → WroteFrontOf ue pads rota input old new → WroteCapture ue pads rota (Err e) left input old new
ends ue pads rota («end».Write error) left old new input is front = front
ends ue pads rota «end».NoMemory left old new input is front = front
ends ue pads rota «end».Done left old new input is front = absurd is
ends ue pads rota («end».Capture fault) left old new input is front = absurd is
ends ue pads rota («end».Read error) left old new input is front = absurd is

-- at the end of the input
ends_well : (ue : Addr) (pads : Bool) (rota : Rota) (start now next left : Option (List ℕ)) (written : Written) (place : Place) (rest input : List ℕ) (fault : Option CaptureFault)
    → Paused ue pads rota start now written place (stop.Waits fault) rest input → IsAtEnd left → Appends now next (rest_flush written.turn)
    → WroteCapture ue pads rota (Ok (written.counts, fault)) left input start next
ends_well ue pads rota start now next left written place rest input fault paused at_end last =
    let after = paused.0 in
    (after.0, (read_all input after.0 place rest fault after.1 paused.1, inl at_end), takes_done ue pads rota after.0 start now next written.turn written.counts after.2 last)

-- at a fault
ends_at_fault : (ue : Addr) (pads : Bool) (rota : Rota) (start now next left : Option (List ℕ)) (written : Written) (place : Place) (rest input : List ℕ) (f : CaptureFault)
    → Paused ue pads rota start now written place (stop.Fault f) rest input → Appends now next (rest_flush written.turn)
    → WroteCapture ue pads rota (Ok (written.counts, Some f)) left input start next
ends_at_fault ue pads rota start now next left written place rest input f paused last =
    let read = subst (λ t. ReadsCapture t paused.0 (Some f)) (append-nil input) (paused.1 []) in
    (paused.0, (read, inr paused.1), takes_done ue pads rota paused.0 start now next written.turn written.counts paused.2 last)

-- the last flush isn't written whole
last_front : (ue : Addr) (pads : Bool) (rota : Rota) (start now next : Option (List ℕ)) (written : Written) (frames : List Captured) (fault : Option CaptureFault) (input : List ℕ)
    → ReadsCapture input frames fault → WroteSoFar ue pads rota frames start now written.turn written.counts → AppendsFront now next (rest_flush written.turn)
    → WroteFrontOf ue pads rota input start next
last_front ue pads rota start now next written frames fault input read so_far front =
    inl (frames, fault, read, rest_front ue pads rota frames start now next written.turn written.counts so_far front)

-- ---- a frame
-- the lines for a frame weren't put whole
pub front_further : (ue : Addr) (pads : Bool) (rota : Rota) (start next : Option (List ℕ)) (input : List ℕ) (frames : List Captured) (place after : Place) (rest others : List ℕ) (p : Option Captured)
    → Reached input frames place rest → CaptureGoesOn place rest p after others
    → ((behind : List Captured) → WritesScriptFront ue pads rota (frames ++ (packets_among (p ∷ []) ++ behind)) start next)
    → WroteLinesFront ue pads rota start next input
front_further ue pads rota start next input frames place after rest others p reached goes front =
    let found = packets_among (p ∷ []) in
    let there = read_of input (frames ++ found) after others (goes_further input frames place after rest others p reached goes) in
    (frames ++ (found ++ there.0), there.1, subst (λ ps. ReadsCapture input ps there.1) (append_assoc frames found there.0) there.2, front there.0)

-- ---- a flush of the writer
front_kept : (ue : Addr) (pads : Bool) (rota : Rota) (start now next : Option (List ℕ)) (input : List ℕ) → WroteLinesFront ue pads rota start now input → Keeps now next → WroteLinesFront ue pads rota start next input
front_kept ue pads rota start now next input front keeps =
    let wrote = front.3 in
    let part = wrote.2 in
    (front.0, front.1, front.2, (wrote.0, wrote.1, (part.0, part.1, part.2, Appends-kept start now next part.0 part.3 keeps)))

lines_kept : (ue : Addr) (pads : Bool) (rota : Rota) (frames : List Captured) (start now next : Option (List ℕ)) (turn : Turn) (counts : Counts) → WroteSoFar ue pads rota frames start now turn counts → Keeps now next
    → WroteSoFar ue pads rota frames start next turn counts
lines_kept ue pads rota frames start now next turn counts so_far keeps =
    (so_far.0, so_far.1, so_far.2, Appends-kept start now next _ so_far.3 keeps, so_far.4)

pub pause_kept : (ue : Addr) (pads : Bool) (rota : Rota) (start now next : Option (List ℕ)) (written : Written) (place : Place) (why : Stop) (rest input : List ℕ)
    → Paused ue pads rota start now written place why rest input → Keeps now next → Paused ue pads rota start next written place why rest input
pause_kept ue pads rota start now next written place (stop.Waits fault) rest input paused keeps =
    let after = paused.0 in
    ((after.0, after.1, lines_kept ue pads rota after.0 start now next written.turn written.counts after.2 keeps), paused.1)
pause_kept ue pads rota start now next written place (stop.Fault f) rest input paused keeps =
    (paused.0, paused.1, lines_kept ue pads rota paused.0 start now next written.turn written.counts paused.2 keeps)
pause_kept ue pads rota start now next written place stop.NoMemory rest input paused keeps = front_kept ue pads rota start now next input paused keeps

-- ---- more octets
pub after_more : (ue : Addr) (pads : Bool) (rota : Rota) (start now : Option (List ℕ)) (written : Written) (place : Place) (rest input block : List ℕ)
    → IsWrittenAfter ue pads rota start now written place rest input → IsWrittenAfter ue pads rota start now written place (rest ++ block) (input ++ block)
after_more ue pads rota start now written place rest input block after = (after.0, comes_further input block after.0 place rest after.1, after.2)

-- ---- failures of the reader
pub fails_in_front : (e : End) (a b c : Option (List ℕ)) (front : List ℕ) → Consumes a b front → length front < 24 → FailsToRead e b c → FailsInFront e a c
fails_in_front («end».Read error) a b c front read few fails = (front, Consumes-kept a b c front read fails, few)
fails_in_front «end».NoMemory a b c front read few fails = (front ++ fails.0, Consumes-trans a b c front fails.0 read fails.1)
fails_in_front «end».Done a b c front read few fails = absurd fails
fails_in_front («end».Capture fault) a b c front read few fails = absurd fails
fails_in_front («end».Write error) a b c front read few fails = absurd fails

-- the lines so far, where the reader fails between frames
lines_so_far : (ue : Addr) (pads : Bool) (rota : Rota) (start now : Option (List ℕ)) (written : Written) (place : Place) (rest input : List ℕ) (fault : Option CaptureFault)
    → Paused ue pads rota start now written place (stop.Waits fault) rest input → WroteSoMuch ue pads rota input start now
lines_so_far ue pads rota start now written place rest input fault paused =
    let after = paused.0 in
    let so_far = after.2 in
    inl (after.0, fault, read_all input after.0 place rest fault after.1 paused.1, (so_far.0, so_far.1, so_far.3))

pub ends_reading : (ue : Addr) (pads : Bool) (rota : Rota) (e : End) (before b left start now : Option (List ℕ)) (written : Written) (place : Place) (rest input : List ℕ) (fault : Option CaptureFault)
    → Consumes before b input → Paused ue pads rota start now written place (stop.Waits fault) rest input → FailsToRead e b left → WritesCapture ue pads rota (Err e) before left start now
ends_reading ue pads rota («end».Read error) before b left start now written place rest input fault read paused fails =
    (input, Consumes-kept before b left input read fails, lines_so_far ue pads rota start now written place rest input fault paused)
ends_reading ue pads rota «end».NoMemory before b left start now written place rest input fault read paused fails =
    let more = after_more ue pads rota start now written place rest input fails.0 paused.0 in
    (input ++ fails.0, Consumes-trans before b left input fails.0 read fails.1, inl (front_so_far ue pads rota start now written place (rest ++ fails.0) (input ++ fails.0) more))
ends_reading ue pads rota «end».Done before b left start now written place rest input fault read paused fails = absurd fails
ends_reading ue pads rota («end».Capture f) before b left start now written place rest input fault read paused fails = absurd fails
ends_reading ue pads rota («end».Write error) before b left start now written place rest input fault read paused fails = absurd fails

pub pause_fails : (ue : Addr) (pads : Bool) (rota : Rota) (start now next : Option (List ℕ)) (written : Written) (place : Place) (why : Stop) (rest input : List ℕ)
    → Paused ue pads rota start now written place why rest input → Keeps now next → WroteLinesFront ue pads rota start next input
pause_fails ue pads rota start now next written place why rest input paused keeps =
    front_kept ue pads rota start now next input (paused_front ue pads rota start now written place why rest input paused) keeps

-- ---- the last flush
pub ends_waiting : (ue : Addr) (pads : Bool) (rota : Rota) (r : Result (Counts × Option CaptureFault) End) (start now next left : Option (List ℕ)) (written : Written) (place : Place) (rest input : List ℕ) (fault : Option CaptureFault)
    → Paused ue pads rota start now written place (stop.Waits fault) rest input → IsAtEnd left
    → IfOk r (λ told. (told ≡ (written.counts, fault)) × Appends now next (rest_flush written.turn))
    → IfErr r (λ e. IsWriteEnd e × AppendsFront now next (rest_flush written.turn))
    → WroteCapture ue pads rota r left input start next
ends_waiting ue pads rota (Ok told) start now next left written place rest input fault paused at_end lines front =
    rw lines.0 (ends_well ue pads rota start now next left written place rest input fault paused at_end lines.1)
ends_waiting ue pads rota (Err e) start now next left written place rest input fault paused at_end lines front =
    let after = paused.0 in
    ends ue pads rota e left start next input front.0
    (last_front ue pads rota start now next written after.0 fault input (read_all input after.0 place rest fault after.1 paused.1) after.2 front.1)

pub ends_faulty : (ue : Addr) (pads : Bool) (rota : Rota) (r : Result (Counts × Option CaptureFault) End) (start now next left : Option (List ℕ)) (written : Written) (place : Place) (rest input : List ℕ) (f : CaptureFault)
    → Paused ue pads rota start now written place (stop.Fault f) rest input
    → IfOk r (λ told. (told ≡ (written.counts, Some f)) × Appends now next (rest_flush written.turn))
    → IfErr r (λ e. IsWriteEnd e × AppendsFront now next (rest_flush written.turn))
    → WroteCapture ue pads rota r left input start next
ends_faulty ue pads rota (Ok told) start now next left written place rest input f paused lines front =
    rw lines.0 (ends_at_fault ue pads rota start now next left written place rest input f paused lines.1)
ends_faulty ue pads rota (Err e) start now next left written place rest input f paused lines front =
    let read = subst (λ t. ReadsCapture t paused.0 (Some f)) (append-nil input) (paused.1 []) in
    ends ue pads rota e left start next input front.0 (last_front ue pads rota start now next written paused.0 (Some f) input read paused.2 front.1)
