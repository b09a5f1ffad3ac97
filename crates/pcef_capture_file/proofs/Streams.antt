-- What octets at hand say, whatever follows them.
use Rattle.std.proofs.Common.{◌≡◌, ◌≢◌, ◌<◌, ◌≤◌, ◌∙◌, ◌++◌, ◌⊎◌, inl, inr, ℕ, Bool, List, [], ◌∷◌, length, drop, true, false, Option, Some, None, Ok, Err, refl, sym, ap, subst, arith}
use Rattle.std.proofs.lemmas.Bool.{le-ltb}
use Rattle.std.proofs.lemmas.List.{drop-append-le}
use Rattle.pcef_base.specs.Readings.{◌>>=◌, or_fault}
use Rattle.pcef_capture_file.specs.Blocks.{Framed, begins_section, block_of, most_block}
use Rattle.pcef_capture_file.specs.Captured.{Captured, Reads}
use Rattle.pcef_capture_file.specs.Captures.{ReadsAs, ReadsClassic}
use Rattle.pcef_capture_file.specs.Classic.{file_header_of, has_version, header_behind, link_number, magic_of, record_of}
use Rattle.pcef_capture_file.specs.PcapNg.{packets_among, step_of, taken_of}
use Rattle.pcef_capture_file.specs.Places.{ReadsOn, in_blocks, in_records}
use Rattle.pcef_capture_file.specs.Sections.{SectionState, before_sections}
use Rattle.pcef_capture_file.specs.Streams.{CaptureGoesOn, IsFileRefused, OpensCapture, Stops}
use Rattle.pcef_capture_file.specs.Pauses.{block_stop, content_stop, record_stop}
use Rattle.pcef_capture_file.specs.declared.classic.FileHeader.{FileHeader}
use Rattle.pcef_capture_file.specs.declared.classic.TimeScale.{TimeScale}
use Rattle.pcef_capture_file.specs.declared.endianness.Endianness.{Endianness}
use Rattle.pcef_capture_file.specs.declared.endianness.Endianness.TheVariants.{Big, Little}
use Rattle.pcef_capture_file.specs.declared.fault.CaptureFault.{CaptureFault}
use Rattle.pcef_capture_file.specs.declared.fault.CaptureFault.TheVariants as fault
use Rattle.pcef_capture_file.proofs.BlockReadings.{among-cons}
use Rattle.pcef_capture_file.proofs.Growth.{CutsBlock, CutsRecord, GrowsBlock, GrowsRecord, begins_more, begins_some, block_more, grown, longer, number_more, record_more}

more_there : (o more : List ℕ) → 0 < length o → 0 < length (o ++ more)
more_there o more some = longer o more 1 some

-- ---- records
record_grows : (h : FileHeader) (o rest more : List ℕ) (p : Captured) → record_of h o ≡ Ok (p, rest) → CutsRecord h o ⊎ GrowsRecord h o more → record_of h (o ++ more) ≡ Ok (p, rest ++ more)
record_grows h o rest more p is (inl cut) =
    let bad : Err cut.0 ≡ Ok (p, rest) = sym cut.1 ∙ is in
    absurd (cc bad)
record_grows h o rest more p is (inr same) = same.0 ∙ ap (grown more) is

pub record_goes : (h : FileHeader) (o rest : List ℕ) (p : Captured) → record_of h o ≡ Ok (p, rest) → CaptureGoesOn (in_records h) o (Some p) (in_records h) rest
record_goes h o rest p is more packets fault read = (rest ++ more, record_grows h o rest more p is (record_more h o more), read)

record_bound : (h : FileHeader) (o : List ℕ) (f : CaptureFault) → record_of h o ≡ Err f → f ≢ fault.TooLong → CutsRecord h o ⊎ GrowsRecord h o [] → length o < most_block
record_bound h o f is other (inl cut) = cut.3
record_bound h o f is other (inr same) = absurd (other (same.1 f is))

record_waits : (h : FileHeader) (o : List ℕ) (f : CaptureFault) → record_of h o ≡ Err f → f ≢ fault.TooLong → length o < most_block
record_waits h o f is other = record_bound h o f is other (record_more h o [])

record_stays : (h : FileHeader) (o more : List ℕ) → record_of h o ≡ Err fault.TooLong → CutsRecord h o ⊎ GrowsRecord h o more → record_of h (o ++ more) ≡ Err fault.TooLong
record_stays h o more is (inl cut) =
    let same : Err cut.0 ≡ Err fault.TooLong = sym cut.1 ∙ is in
    absurd (cut.2 (cc same))
record_stays h o more is (inr same) = same.0 ∙ ap (grown more) is

record_faults : (h : FileHeader) (o : List ℕ) → 0 < length o → record_of h o ≡ Err fault.TooLong → (more : List ℕ) → ReadsOn (in_records h) (o ++ more) [] (Some fault.TooLong)
record_faults h o some is more = (more_there o more some, record_stays h o more is (record_more h o more))

-- a fault of a record, where more octets may come
pub record_stops : (h : FileHeader) (o : List ℕ) (f : CaptureFault) → 0 < length o → record_of h o ≡ Err f → Stops (in_records h) o (record_stop f) (in_records h)
record_stops h o fault.TooLong some is = record_faults h o some is
record_stops h o f some is = ((some, is), record_waits h o f is (λ e. cc e), refl)

-- ---- blocks
block_grows : (e : Endianness) (o rest more : List ℕ) (b : Framed) → block_of e o ≡ Ok (b, rest) → CutsBlock e o ⊎ GrowsBlock e o more → block_of e (o ++ more) ≡ Ok (b, rest ++ more)
block_grows e o rest more b is (inl cut) =
    let bad : Err fault.CutBlock ≡ Ok (b, rest) = sym cut.0 ∙ is in
    absurd (cc bad)
block_grows e o rest more b is (inr same) = same.0 ∙ ap (grown more) is

block_stays : (e : Endianness) (o more : List ℕ) (f : CaptureFault) → block_of e o ≡ Err f → f ≢ fault.CutBlock → CutsBlock e o ⊎ GrowsBlock e o more → block_of e (o ++ more) ≡ Err f
block_stays e o more f is other (inl cut) =
    let same : Err f ≡ Err fault.CutBlock = sym is ∙ cut.0 in
    absurd (other (cc same))
block_stays e o more f is other (inr same) = same.0 ∙ ap (grown more) is

block_bound : (e : Endianness) (o : List ℕ) → block_of e o ≡ Err fault.CutBlock → CutsBlock e o ⊎ GrowsBlock e o [] → length o < most_block
block_bound e o is (inl cut) = cut.1
block_bound e o is (inr same) = absurd (same.1 is)

block_waits : (e : Endianness) (o : List ℕ) → block_of e o ≡ Err fault.CutBlock → length o < most_block
block_waits e o is = block_bound e o is (block_more e o [])

step_fault : (s : SectionState) (o : List ℕ) (f : CaptureFault) → block_of s.endianness o ≡ Err f → step_of s o ≡ Err f
unfolding step_of
step_fault s o f is = rw is refl

step_taken : (s : SectionState) (o rest : List ℕ) (b : Framed) → block_of s.endianness o ≡ Ok (b, rest) → step_of s o ≡ (taken_of s b >>= (λ taken. Ok (taken.0, (taken.1, rest))))
unfolding step_of
step_taken s o rest b is = rw is refl

pub block_goes : (s after : SectionState) (o rest : List ℕ) (b : Framed) (p : Option Captured) → block_of s.endianness o ≡ Ok (b, rest) → taken_of s b ≡ Ok (after, p) → CaptureGoesOn (in_blocks s) o p (in_blocks after) rest
block_goes s after o rest b p is taken more packets fault read =
    let whole = block_grows s.endianness o rest more b is (block_more s.endianness o more) in
    let step : step_of s (o ++ more) ≡ Ok (after, (p, rest ++ more)) =
    step_taken s (o ++ more) (rest ++ more) b whole ∙ ap (λ r. r >>= (λ t. Ok (t.0, (t.1, rest ++ more)))) taken in
    (p ∷ read.0, (after, rest ++ more, step, read.1), ap (λ t. packets_among (p ∷ []) ++ t) read.2 ∙ sym (among-cons p read.0))

-- a fault that more octets don't change
faults_on : (s : SectionState) (o more : List ℕ) (f : CaptureFault) → 0 < length o → step_of s (o ++ more) ≡ Err f → ReadsOn (in_blocks s) (o ++ more) [] (Some f)
faults_on s o more f some step = ([], (more_there o more some, step), refl)

block_faults : (s : SectionState) (o : List ℕ) (f : CaptureFault) → 0 < length o → block_of s.endianness o ≡ Err f → f ≢ fault.CutBlock → (more : List ℕ) → ReadsOn (in_blocks s) (o ++ more) [] (Some f)
block_faults s o f some is other more =
    faults_on s o more f some (step_fault s (o ++ more) f (block_stays s.endianness o more f is other (block_more s.endianness o more)))

taken_faults : (s : SectionState) (o rest : List ℕ) (b : Framed) (f : CaptureFault) → 0 < length o → block_of s.endianness o ≡ Ok (b, rest) → taken_of s b ≡ Err f → (more : List ℕ) → ReadsOn (in_blocks s) (o ++ more) [] (Some f)
taken_faults s o rest b f some is taken more =
    let whole = block_grows s.endianness o rest more b is (block_more s.endianness o more) in
    faults_on s o more f some (step_taken s (o ++ more) (rest ++ more) b whole ∙ ap (λ r. r >>= (λ t. Ok (t.0, (t.1, rest ++ more)))) taken)

cut_block : (s : SectionState) (o : List ℕ) → 0 < length o → block_of s.endianness o ≡ Err fault.CutBlock → ReadsOn (in_blocks s) o [] (Some fault.CutBlock)
cut_block s o some is = ([], (some, step_fault s o fault.CutBlock is), refl)

pub block_stops : (s : SectionState) (o : List ℕ) (f : CaptureFault) → 0 < length o → block_of s.endianness o ≡ Err f → Stops (in_blocks s) o (block_stop f) (in_blocks s)
block_stops s o fault.CutBlock some is = (cut_block s o some is, block_waits s.endianness o is, refl)
block_stops s o f some is = block_faults s o f some is (λ e. cc e)

pub content_stops : (s after : SectionState) (o rest : List ℕ) (b : Framed) (f : CaptureFault) → 0 < length o → block_of s.endianness o ≡ Ok (b, rest)
    → (f ≡ fault.NoMemory) ⊎ (taken_of s b ≡ Err f) → Stops (in_blocks s) o (content_stop f) (in_blocks after)
content_stops s after o rest b fault.NoMemory some is why = tt
content_stops s after o rest b f some is (inl bad) = absurd (cc bad)
content_stops s after o rest b f some is (inr taken) = taken_faults s o rest b f some is taken

-- ---- the front
as_blocks : (begins : Bool) (o : List ℕ) (packets : List Captured) (fault : Option CaptureFault) → begins ≡ true → ReadsOn (in_blocks before_sections) o packets fault → ReadsAs begins o packets fault
as_blocks true o packets fault is read = read
as_blocks false o packets fault is read = absurd (cc is)

pub opens_blocks : (o : List ℕ) → begins_section o ≡ true → OpensCapture o (in_blocks before_sections) o
opens_blocks o is more packets fault read =
    as_blocks (begins_section (o ++ more)) (o ++ more) packets fault (begins_more o more (begins_some o is) ∙ is) read

magic_more : (o more : List ℕ) → 4 ≤ length o → magic_of (o ++ more) ≡ magic_of o
unfolding magic_of
magic_more o more le =
    rw (le-ltb (length o) 4 le, le-ltb (length (o ++ more)) 4 (longer o more 4 le), number_more Big o more 0 4 (omega (arith, le)), number_more Little o more 0 4 (omega (arith, le))) refl

behind_more : (e : Endianness) (scale : TimeScale) (o more : List ℕ) → 24 ≤ length o → header_behind e scale (o ++ more) ≡ header_behind e scale o
unfolding header_behind has_version link_number
behind_more e scale o more le =
    rw (le-ltb (length o) 24 le, le-ltb (length (o ++ more)) 24 (longer o more 24 le), number_more e o more 4 2 (omega (arith, le)), number_more e o more 6 2 (omega (arith, le)), number_more e o more 20 4 (omega (arith, le))) refl

headers_more : (magic : Option (Endianness × TimeScale)) (o more : List ℕ) → 24 ≤ length o
    → (or_fault fault.NotACapture magic >>= (λ m. header_behind m.0 m.1 (o ++ more))) ≡ (or_fault fault.NotACapture magic >>= (λ m. header_behind m.0 m.1 o))
headers_more None o more le = refl
headers_more (Some m) o more le = behind_more m.0 m.1 o more le

header_more : (o more : List ℕ) → 24 ≤ length o → file_header_of (o ++ more) ≡ file_header_of o
unfolding file_header_of
header_more o more le =
    ap (λ magic. or_fault fault.NotACapture magic >>= (λ m. header_behind m.0 m.1 (o ++ more))) (magic_more o more (omega (arith, le)))
    ∙ headers_more (magic_of o) o more le

as_records : (begins : Bool) (o : List ℕ) (packets : List Captured) (fault : Option CaptureFault) → begins ≡ false → ReadsClassic o packets fault → ReadsAs begins o packets fault
as_records true o packets fault is read = absurd (cc is)
as_records false o packets fault is read = read

classic_read : (h : FileHeader) (o : List ℕ) (packets : List Captured) (fault : Option CaptureFault) → file_header_of o ≡ Ok h → Reads (record_of h) (drop 24 o) packets fault → ReadsClassic o packets fault
classic_read h o packets fault is read = rw is read

pub opens_records : (h : FileHeader) (o : List ℕ) → begins_section o ≡ false → file_header_of o ≡ Ok h → 24 ≤ length o → OpensCapture o (in_records h) (drop 24 o)
opens_records h o not header le more packets fault read =
    as_records (begins_section (o ++ more)) (o ++ more) packets fault (begins_more o more (omega (arith, le)) ∙ not)
    (classic_read h (o ++ more) packets fault (header_more o more le ∙ header) (subst (λ t. Reads (record_of h) t packets fault) (sym (drop-append-le 24 o more le)) read))

pub refused_on : (o more : List ℕ) (f : CaptureFault) → begins_section o ≡ false → file_header_of o ≡ Err f → 24 ≤ length o → IsFileRefused (o ++ more) f
refused_on o more f not header le =
    (λ is. absurd (cc (is, begins_more o more (omega (arith, le)) ∙ not)), header_more o more le ∙ header)
