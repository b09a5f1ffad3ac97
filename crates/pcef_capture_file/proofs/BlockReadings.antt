-- What it takes to read blocks one after another.
use Rattle.std.proofs.Common.{◌≡◌, ◌<◌, ◌∙◌, ◌++◌, ℕ, List, [], ◌∷◌, length, false, true, Option, Some, None, Result, Ok, Err, refl, sym, ap, subst, arith, append_assoc, append-nil, Bool, drop, IsOkAnd}
use Rattle.pcef_capture_file.specs.Captured.{Captured}
use Rattle.pcef_capture_file.specs.Blocks.{begins_section, block_of}
use Rattle.pcef_capture_file.specs.Captures.{ReadsAs}
use Rattle.pcef_capture_file.specs.Classic.{file_header_of, record_of}
use Rattle.pcef_capture_file.specs.Laws.{OneCapture}
use Rattle.pcef_capture_file.specs.PcapNg.{packets_among, ReadsBlocks, ReadsFile, step_of}
use Rattle.pcef_capture_file.specs.Sections.{SectionState, before_sections}
use Rattle.pcef_capture_file.proofs.Readings.{read_once}
use Rattle.pcef_capture_file.specs.Captured.{Reads}
use Rattle.pcef_capture_file.specs.declared.classic.FileHeader.{FileHeader}
use Rattle.pcef_capture_file.specs.declared.fault.CaptureFault.{CaptureFault}
use Rattle.pcef_capture_file.specs.declared.fault.CaptureFault.TheVariants as fault

-- whatever is read of the rest is read of the file, behind the packets so far
abbrev pub ReadSoFar : List ℕ → List Captured → SectionState → List ℕ → Type 0
ReadSoFar octets packets s rest =
    (found : List (Option Captured)) (fault : Option CaptureFault) → ReadsBlocks s rest found fault → ReadsFile octets (packets ++ packets_among found) fault

pub none_so_far : (octets : List ℕ) → ReadSoFar octets [] before_sections octets
none_so_far octets found fault read = (found, read, refl)

pub among-cons : (p : Option Captured) (ps : List (Option Captured)) → packets_among (p ∷ ps) ≡ packets_among (p ∷ []) ++ packets_among ps
among-cons None ps = refl
among-cons (Some p) ps = refl

-- one block more
pub one_more : (octets : List ℕ) (packets more : List Captured) (s after : SectionState) (octets_now rest : List ℕ) (p : Option Captured)
    → ReadSoFar octets packets s octets_now
    → step_of s octets_now ≡ Ok (after, (p, rest))
    → more ≡ packets ++ packets_among (p ∷ [])
    → ReadSoFar octets more after rest
one_more octets packets more s after now rest p so_far step e found fault read =
    let whole = so_far (p ∷ found) fault (after, rest, step, read) in
    let same : packets ++ packets_among (p ∷ found) ≡ more ++ packets_among found =
    ap (λ t. packets ++ t) (among-cons p found) ∙ sym (append_assoc packets (packets_among (p ∷ [])) (packets_among found)) ∙ ap (λ t. t ++ packets_among found) (sym e) in
    subst (λ t. ReadsFile octets t fault) same whole

-- the end of the file
pub all_read : (octets : List ℕ) (packets : List Captured) (s : SectionState) (rest : List ℕ) → ReadSoFar octets packets s rest → rest ≡ [] → ReadsFile octets packets None
all_read octets packets s rest so_far none = subst (λ t. ReadsFile octets t None) (append-nil packets) (so_far [] None none)

-- a block at fault
pub read_to_fault : (octets : List ℕ) (packets : List Captured) (s : SectionState) (rest : List ℕ) (f : CaptureFault)
    → ReadSoFar octets packets s rest → 0 < length rest → step_of s rest ≡ Err f → ReadsFile octets packets (Some f)
read_to_fault octets packets s rest f so_far some step =
    subst (λ t. ReadsFile octets t (Some f)) (append-nil packets) (so_far [] (Some f) (some, step))

-- nothing isn't a block
empty_step : (s : SectionState) → step_of s [] ≡ Err fault.CutBlock
unfolding step_of block_of
empty_step s = refl

none_or_fault : (octets : List ℕ) → octets ≡ [] → 0 < length octets → ⊥
none_or_fault [] e some = omega (arith, some)
none_or_fault (octet ∷ octets) e some = absurd (cc e)

none_or_block : (s : SectionState) (octets : List ℕ) (x : SectionState × (Option Captured × List ℕ)) → octets ≡ [] → step_of s octets ≡ Ok x → ⊥
none_or_block s octets x e r =
    let bad : Err fault.CutBlock ≡ Ok x = sym (empty_step s) ∙ sym (ap (step_of s) e) ∙ r in
    absurd (cc bad)

fault_or_block : (s : SectionState) (octets : List ℕ) (x : SectionState × (Option Captured × List ℕ)) (f : CaptureFault) → step_of s octets ≡ Err f → step_of s octets ≡ Ok x → ⊥
fault_or_block s octets x f e r = let bad : Err f ≡ Ok x = sym e ∙ r in absurd (cc bad)

same_step : (r : Result (SectionState × (Option Captured × List ℕ)) CaptureFault) (x y : SectionState × (Option Captured × List ℕ)) → r ≡ Ok x → r ≡ Ok y → x ≡ y
same_step r x y e h =
    let same : Ok x ≡ Ok y = sym e ∙ h in
    cc same

blocks_once : (s : SectionState) (octets : List ℕ) (found others : List (Option Captured)) (f g : Option CaptureFault)
    → ReadsBlocks s octets found f → ReadsBlocks s octets others g → (found ≡ others) × (f ≡ g)
blocks_once s octets [] [] None None r q = (refl, refl)
blocks_once s octets [] [] None (Some g) r q = absurd (none_or_fault octets r q.0)
blocks_once s octets [] [] (Some f) None r q = absurd (none_or_fault octets q r.0)
blocks_once s octets [] [] (Some f) (Some g) r q =
    let same : Err f ≡ Err g = sym r.1 ∙ q.1 in
    (refl, cc same)
blocks_once s octets [] (p ∷ ps) None g r q = absurd (none_or_block s octets (q.0, (p, q.1)) r q.2)
blocks_once s octets [] (p ∷ ps) (Some f) g r q = absurd (fault_or_block s octets (q.0, (p, q.1)) f r.1 q.2)
blocks_once s octets (p ∷ ps) [] f None r q = absurd (none_or_block s octets (r.0, (p, r.1)) q r.2)
blocks_once s octets (p ∷ ps) [] f (Some g) r q = absurd (fault_or_block s octets (r.0, (p, r.1)) g q.1 r.2)
blocks_once s octets (p ∷ ps) (o ∷ os) f g r q =
    let same : (r.0, (p, r.1)) ≡ (q.0, (o, q.1)) = same_step (step_of s octets) (r.0, (p, r.1)) (q.0, (o, q.1)) r.2 q.2 in
    let after : r.0 ≡ q.0 = ap (λ t. t.0) same in
    let first : p ≡ o = ap (λ t. t.1.0) same in
    let rest : r.1 ≡ q.1 = ap (λ t. t.1.1) same in
    let there = subst (λ t. ReadsBlocks q.0 t ps f) rest (subst (λ t. ReadsBlocks t r.1 ps f) after r.3) in
    let others = blocks_once q.0 q.1 ps os f g there q.3 in
    (ap (λ x. x ∷ ps) first ∙ ap (λ xs. o ∷ xs) others.0, others.1)

file_once : (octets : List ℕ) (packets others : List Captured) (f g : Option CaptureFault)
    → ReadsFile octets packets f → ReadsFile octets others g → (packets ≡ others) × (f ≡ g)
file_once octets packets others f g r q =
    let same = blocks_once before_sections octets r.0 q.0 f g r.1 q.1 in
    (r.2 ∙ ap packets_among same.0 ∙ sym q.2, same.1)

records_once : (header : Result FileHeader CaptureFault) (octets : List ℕ) (packets others : List Captured) (f g : Option CaptureFault)
    → IsOkAnd header (λ h. Reads (record_of h) octets packets f) → IsOkAnd header (λ h. Reads (record_of h) octets others g) → (packets ≡ others) × (f ≡ g)
records_once (Ok h) octets packets others f g r q = read_once h octets packets others f g r q
records_once (Err e) octets packets others f g r q = absurd r

either_once : (b : Bool) (octets : List ℕ) (packets others : List Captured) (f g : Option CaptureFault)
    → ReadsAs b octets packets f → ReadsAs b octets others g → (packets ≡ others) × (f ≡ g)
either_once true octets packets others f g r q = file_once octets packets others f g r q
either_once false octets packets others f g r q = records_once (file_header_of octets) (drop 24 octets) packets others f g r q

pub capture_once : OneCapture
capture_once octets packets others f g r q = either_once (begins_section octets) octets packets others f g r q
