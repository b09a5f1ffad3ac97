-- Some octets have a reading, whatever they are.
use Rattle.std.proofs.Common.{◌≡◌, ◌<◌, ◌≤◌, ◌∙◌, ℕ, zero, suc, List, [], ◌∷◌, length, drop, Option, Some, None, Result, Ok, Err, refl, sym, ap, arith, length-drop}
use Rattle.pcef_base.specs.Readings.{◌>>=◌}
use Rattle.pcef_capture_file.specs.Blocks.{Framed, block_of}
use Rattle.pcef_capture_file.specs.Captured.{Captured, Reads}
use Rattle.pcef_capture_file.specs.Classic.{record_of}
use Rattle.pcef_capture_file.specs.PcapNg.{ReadsBlocks, packets_among, step_of, taken_of}
use Rattle.pcef_capture_file.specs.Places.{Place, ReadsOn, in_blocks, in_records}
use Rattle.pcef_capture_file.specs.Sections.{SectionState}
use Rattle.pcef_capture_file.specs.declared.classic.FileHeader.{FileHeader}
use Rattle.pcef_capture_file.specs.declared.fault.CaptureFault.{CaptureFault}
use Rattle.pcef_capture_file.proofs.Growth.{block_behind, record_behind}

-- octets are fewer once some were read
fewer : (o rest : List ℕ) (k n : ℕ) → 0 < k → k ≤ length o → rest ≡ drop k o → length o ≤ suc n → length rest ≤ n
fewer o rest k n some within is le = omega (arith, some, within, le, ap length is, length-drop k o)

-- ---- records
abbrev RecordsThere : FileHeader → List ℕ → Type 0
RecordsThere h o = (packets : List Captured) × (fault : Option CaptureFault) × Reads (record_of h) o packets fault

record_there : (h : FileHeader) (o : List ℕ) (n : ℕ) (r : Result (Captured × List ℕ) CaptureFault) → record_of h o ≡ r → 0 < length o → length o ≤ suc n
    → ((rest : List ℕ) → length rest ≤ n → RecordsThere h rest) → RecordsThere h o
record_there h o n (Err f) is some le others = ([], Some f, (some, is))
record_there h o n (Ok found) is some le others =
    let behind = record_behind h o found.1 found.0 is in
    let rest = others found.1 (fewer o found.1 behind.0 n behind.1 behind.2 behind.3 le) in
    (found.0 ∷ rest.0, rest.1, (found.1, is, rest.2))

records_there : (n : ℕ) (h : FileHeader) (o : List ℕ) → length o ≤ n → RecordsThere h o
records_there n h [] le = ([], None, refl)
records_there zero h (x ∷ o) le = absurd (omega (arith, le))
records_there (suc n) h (x ∷ o) le =
    record_there h (x ∷ o) n (record_of h (x ∷ o)) refl (omega arith) le (λ rest fits. records_there n h rest fits)

-- ---- blocks
abbrev BlocksThere : SectionState → List ℕ → Type 0
BlocksThere s o = (found : List (Option Captured)) × (fault : Option CaptureFault) × ReadsBlocks s o found fault

taken_rest : (t : Result (SectionState × Option Captured) CaptureFault) (rest : List ℕ) (x : SectionState × (Option Captured × List ℕ))
    → (t >>= (λ taken. Ok (taken.0, (taken.1, rest)))) ≡ Ok x → x.1.1 ≡ rest
taken_rest (Err f) rest x is = absurd (cc is)
taken_rest (Ok taken) rest x is =
    let same : (taken.0, (taken.1, rest)) ≡ x = cc is in
    sym (ap (λ y. y.1.1) same)

block_rest : (s : SectionState) (o : List ℕ) (r : Result (Framed × List ℕ) CaptureFault) (x : SectionState × (Option Captured × List ℕ)) → block_of s.endianness o ≡ r
    → (r >>= (λ found. taken_of s found.0 >>= (λ taken. Ok (taken.0, (taken.1, found.1))))) ≡ Ok x → (n : ℕ) × (0 < n) × (n ≤ length o) × (x.1.1 ≡ drop n o)
block_rest s o (Err f) x block is = absurd (cc is)
block_rest s o (Ok found) x block is =
    let behind = block_behind s.endianness o found.1 found.0 block in
    (behind.0, behind.1, behind.2, taken_rest (taken_of s found.0) found.1 x is ∙ behind.3)

step_rest : (s : SectionState) (o : List ℕ) (x : SectionState × (Option Captured × List ℕ)) → step_of s o ≡ Ok x → (n : ℕ) × (0 < n) × (n ≤ length o) × (x.1.1 ≡ drop n o)
unfolding step_of
step_rest s o x is = block_rest s o (block_of s.endianness o) x refl is

block_there : (s : SectionState) (o : List ℕ) (n : ℕ) (r : Result (SectionState × (Option Captured × List ℕ)) CaptureFault) → step_of s o ≡ r → 0 < length o → length o ≤ suc n
    → ((after : SectionState) (rest : List ℕ) → length rest ≤ n → BlocksThere after rest) → BlocksThere s o
block_there s o n (Err f) is some le others = ([], Some f, (some, is))
block_there s o n (Ok x) is some le others =
    let behind = step_rest s o x is in
    let rest = others x.0 x.1.1 (fewer o x.1.1 behind.0 n behind.1 behind.2 behind.3 le) in
    (x.1.0 ∷ rest.0, rest.1, (x.0, x.1.1, is, rest.2))

blocks_there : (n : ℕ) (s : SectionState) (o : List ℕ) → length o ≤ n → BlocksThere s o
blocks_there n s [] le = ([], None, refl)
blocks_there zero s (x ∷ o) le = absurd (omega (arith, le))
blocks_there (suc n) s (x ∷ o) le =
    block_there s (x ∷ o) n (step_of s (x ∷ o)) refl (omega arith) le (λ after rest fits. blocks_there n after rest fits)

-- from any place on
pub reads_there : (place : Place) (o : List ℕ) → (packets : List Captured) × (fault : Option CaptureFault) × ReadsOn place o packets fault
reads_there (in_records h) o = records_there (length o) h o (omega arith)
reads_there (in_blocks s) o =
    let found = blocks_there (length o) s o (omega arith) in
    (packets_among found.0, found.1, (found.0, found.2, refl))
