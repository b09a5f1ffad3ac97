-- What it takes to read packets one after another.
use Rattle.std.proofs.Common.{◌≡◌, ◌<◌, ◌∙◌, ℕ, List, [], ◌∷◌, length, eqb, false, Some, None, Result, Ok, Err, refl, sym, ap, subst, arith}
use Rattle.pcef_capture_file.specs.Captured.{Captured, Reads}
use Rattle.pcef_capture_file.specs.Classic.{record_of}
use Rattle.pcef_capture_file.specs.Laws.{OneReading}
use Rattle.pcef_capture_file.specs.declared.classic.FileHeader.{FileHeader}
use Rattle.pcef_capture_file.specs.declared.fault.CaptureFault.{CaptureFault}
use Rattle.pcef_capture_file.specs.declared.fault.CaptureFault.TheVariants as fault

-- a list that isn't empty
pub some_length : (octets : List ℕ) → eqb (length octets) 0 ≡ false → 0 < length octets
some_length [] h = absurd (cc h)
some_length (octet ∷ octets) h = omega arith

-- nothing isn't a record
empty_record : (h : FileHeader) → record_of h [] ≡ Err fault.CutRecord
unfolding record_of
empty_record h = refl

none_or_fault : (h : FileHeader) (octets : List ℕ) → octets ≡ [] → 0 < length octets → ⊥
none_or_fault h [] e some = omega (arith, some)
none_or_fault h (octet ∷ octets) e some = absurd (cc e)

none_or_packet : (h : FileHeader) (octets rest : List ℕ) (p : Captured) → octets ≡ [] → record_of h octets ≡ Ok (p, rest) → ⊥
none_or_packet h octets rest p e r =
    let bad : Err fault.CutRecord ≡ Ok (p, rest) = sym (empty_record h) ∙ sym (ap (record_of h) e) ∙ r in
    absurd (cc bad)

fault_or_packet : (h : FileHeader) (octets rest : List ℕ) (p : Captured) (f : CaptureFault) → record_of h octets ≡ Err f → record_of h octets ≡ Ok (p, rest) → ⊥
fault_or_packet h octets rest p f e r = let bad : Err f ≡ Ok (p, rest) = sym e ∙ r in absurd (cc bad)

same_read : (r : Result (Captured × List ℕ) CaptureFault) (x y : Captured × List ℕ) → r ≡ Ok x → r ≡ Ok y → x ≡ y
same_read r x y e h =
    let same : Ok x ≡ Ok y = sym e ∙ h in
    cc same

pub read_once : OneReading
read_once h octets [] [] None None r s = (refl, refl)
read_once h octets [] [] None (Some g) r s = absurd (none_or_fault h octets r s.0)
read_once h octets [] [] (Some f) None r s = absurd (none_or_fault h octets s r.0)
read_once h octets [] [] (Some f) (Some g) r s =
    let same : Err f ≡ Err g = sym r.1 ∙ s.1 in
    (refl, cc same)
read_once h octets [] (q ∷ qs) None g r s = absurd (none_or_packet h octets s.0 q r s.1)
read_once h octets [] (q ∷ qs) (Some f) g r s = absurd (fault_or_packet h octets s.0 q f r.1 s.1)
read_once h octets (p ∷ ps) [] f None r s = absurd (none_or_packet h octets r.0 p s r.1)
read_once h octets (p ∷ ps) [] f (Some g) r s = absurd (fault_or_packet h octets r.0 p g s.1 r.1)
read_once h octets (p ∷ ps) (q ∷ qs) f g r s =
    let same : (p, r.0) ≡ (q, s.0) = same_read (record_of h octets) (p, r.0) (q, s.0) r.1 s.1 in
    let packet : p ≡ q = ap (λ t. t.0) same in
    let rest : r.0 ≡ s.0 = ap (λ t. t.1) same in
    let others = read_once h s.0 ps qs f g (subst (λ o. Reads (record_of h) o ps f) rest r.2) s.2 in
    (ap (λ x. x ∷ ps) packet ∙ ap (λ xs. q ∷ xs) others.0, others.1)
