use Rattle.std.proofs.Common.{◌≡◌, ◌≢◌, ◌<◌, ◌∙◌, ◌⊎◌, inl, inr, ℕ, List, [], length, map, sym, Result, Ok, Err, Some, IfOk, OnOk}
use Rattle.std.proofs.lemmas.Bool.{eqb-true}
use Rattle.std.proofs.lemmas.List.{nil_from_length}
use Rattle.pcef_capture_file.specs.Captured.{captured}
use Rattle.pcef_capture_file.specs.PcapNg.{ReadsFile, step_of}
use Rattle.pcef_capture_file.specs.declared.fault.CaptureFault.{CaptureFault}
use Rattle.pcef_capture_file.specs.declared.fault.CaptureFault.TheVariants.{NoMemory}
use Rattle.pcef_capture_file.specs.declared.packet.Capture.{Capture}
use Rattle.pcef_capture_file.specs.declared.packet.Packet.{Packet}
use Rattle.pcef_capture_file.specs.Sections.{SectionState, standing}
use Rattle.pcef_capture_file.proofs.BlockReadings.{ReadSoFar, all_read, one_more, read_to_fault}
use Rattle.pcef_capture_file.proofs.Readings.{some_length}
use Rattle.pcef_capture_file.proofs.pcapng.read_blocks.Goals as goal

-- what was read before a block at fault
ends_there : (r : Result Capture CaptureFault) (octets : List ℕ) (packets : List Packet) (s : SectionState) (rest : List ℕ) (f : CaptureFault)
    → ReadSoFar octets (map captured packets) s rest → 0 < length rest
    → (f ≡ NoMemory) ⊎ (step_of s rest ≡ Err f)
    → IfOk r (λ capture. capture.packets.items ≡ packets) → IfOk r (λ capture. capture.fault ≡ Some f) → OnOk r (f ≢ NoMemory)
    → IfOk r (λ capture. ReadsFile octets (map captured capture.packets.items) capture.fault)
ends_there (Err e) octets packets s rest f so_far some step same told other = tt
ends_there (Ok capture) octets packets s rest f so_far some (inl bad) same told other = absurd (other bad)
ends_there (Ok capture) octets packets s rest f so_far some (inr step) same told other =
    rw (same, told) (read_to_fault octets (map captured packets) s rest f so_far some step)

pub loop-rest-preserved : goal.loop-rest-preserved
loop-rest-preserved c =
    one_more c.args.octets.now (map captured c.loop-rest.packets.items) (map captured c.note.new.packets.items) (standing c.loop-rest.section) (standing c.read_step.new.section)
    c.loop-rest.rest.now c.in-Ok.others.now _ c.loop-rest.invariant c.in-Ok.ensures.ok c.in-Ok-note.ensures

pub returns-in-Err-clause-packets : goal.returns-in-Err-clause-packets
returns-in-Err-clause-packets c =
    let some : 0 < length c.loop-rest.rest.now = some_length c.loop-rest.rest.now (sym c.is_empty.ensures ∙ c.loop-rest-test.true) in
    ends_there c.capture_until.result c.args.octets.now c.loop-rest.packets.items (standing c.loop-rest.section) c.loop-rest.rest.now c.in-Err.fault c.loop-rest.invariant some
    c.in-Err.ensures.fault c.capture_until.ensures.packets c.capture_until.ensures.stop c.capture_until.ensures.other

pub returns-clause-packets : goal.returns-clause-packets
returns-clause-packets c =
    let none : c.loop-rest.rest.now ≡ [] = nil_from_length c.loop-rest.rest.now (eqb-true _ _ (sym c.is_empty.ensures ∙ c.loop-rest-test.false)) in
    all_read c.args.octets.now (map captured c.loop-rest.packets.items) (standing c.loop-rest.section) c.loop-rest.rest.now c.loop-rest.invariant none
