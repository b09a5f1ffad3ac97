-- What it means that packets are those of a pcapng file (draft-ietf-opsawg-pcapng, clause 3).
use Rattle.std.specs.Prelude.{◌≡◌, ◌<◌, ℕ, List, [], ◌∷◌, length, Option, Some, None, Result, Ok, Err}
use Rattle.std.specs.List.{filter_map}
use Rattle.pcef_base.specs.Readings.{◌>>=◌}
use Rattle.pcef_capture_file.specs.Blocks.{block_of, Framed}
use Rattle.pcef_capture_file.specs.BlockPackets.{block_packet}
use Rattle.pcef_capture_file.specs.Captured.{Captured}
use Rattle.pcef_capture_file.specs.Sections.{SectionState, before_sections, section_after}
use Rattle.pcef_capture_file.specs.declared.fault.CaptureFault.{CaptureFault}

-- how the section stands behind a block, and the packet in the block
unfoldable pub taken_of : SectionState → Framed → Result (SectionState × Option Captured) CaptureFault
taken_of s block =
    section_after s block
    >>= (λ after. block_packet s.interfaces block
    >>= (λ packet. Ok (after, packet)))

-- the same of the block at the front, and the octets behind it
unfoldable pub step_of : SectionState → List ℕ → Result (SectionState × (Option Captured × List ℕ)) CaptureFault
step_of s octets =
    block_of s.endianness octets
    >>= (λ found. taken_of s found.0
    >>= (λ taken. Ok (taken.0, (taken.1, found.1))))

-- The octets are blocks one after another, with these packets or none in them: up to the end where there is
-- no fault, else up to a block at fault.
abbrev pub ReadsBlocks : SectionState → List ℕ → List (Option Captured) → Option CaptureFault → Type 0
ReadsBlocks s octets [] None = octets ≡ []
ReadsBlocks s octets [] (Some fault) = (0 < length octets) × (step_of s octets ≡ Err fault)
ReadsBlocks s octets (found ∷ others) fault =
    (after : SectionState) × (rest : List ℕ) × (step_of s octets ≡ Ok (after, (found, rest))) × ReadsBlocks after rest others fault

-- the packets of those blocks that have one
abbrev pub packets_among : List (Option Captured) → List Captured
packets_among found = filter_map (λ packet. packet) found

abbrev pub ReadsFile : List ℕ → List Captured → Option CaptureFault → Type 0
ReadsFile octets packets fault =
    (found : List (Option Captured)) × ReadsBlocks before_sections octets found fault × (packets ≡ packets_among found)
