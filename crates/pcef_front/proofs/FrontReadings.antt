-- Packets of any version of which a front is at hand.
use Rattle.std.proofs.Common.{ℕ, ◌≡◌, ◌≢◌, ◌-◌, ◌/◌, ◌<◌, ◌∙◌, ◌++◌, ◌==◌, ◌⊎◌, false, List, [], ◌∷◌, length, Result, Ok, Err, refl, sym, ap, arith, inl, inr}
use Rattle.std.specs.Prelude.{nat_lt}
use Rattle.std.proofs.lemmas.Bool.{cases_Bool}
use Rattle.std.proofs.lemmas.Bool.Decides.{nat_tests}
use Rattle.std.proofs.lemmas.List.{append-nil, length-append}
use Rattle.std.proofs.lemmas.List.Elements.{All-cons}
use Rattle.pcef_packet.specs.declared.header.Dir.{Dir}
use Rattle.pcef_packet.specs.declared.header.Header.{Header}
use Rattle.pcef_packet.specs.declared.header.PacketFault.{PacketFault}
use Rattle.pcef_packet.specs.declared.header.PacketFault.TheVariants as fault
use Rattle.pcef_packet.specs.HeaderOf.{header_len_v4, header_of, reading_v6, version}
use Rattle.pcef_front.specs.Fronts.{IsOpen, IsSure, IsSettledBy, MayFollow, as_front}
use Rattle.pcef_front.specs.declared.fault.FrontFault.{FrontFault}
use Rattle.pcef_front.specs.private.Transports.{reading_v4}
use Rattle.pcef_front.proofs.FrontNumbers.{index_front}
use Rattle.pcef_front.proofs.Told.{IsOctet, blank, blank_len, same_read, zeros}

-- ---- a packet that is whole
none_left : (rest : List ℕ) → length rest ≡ 0 → rest ≡ []
none_left [] none = refl
none_left (x ∷ rest) none = absurd (omega arith)

whole_read : {A : Type 0} (read : List ℕ → Result A PacketFault) (front : List ℕ) (whole : ℕ) (r : Result A PacketFault) → length front ≡ whole → read front ≡ r → IsSure read front whole r
whole_read read front whole r long is = λ rest follows.
    let all = follows.long in
    ap read (ap (λ l. front ++ l) (none_left rest (omega arith)) ∙ append-nil front) ∙ is

pub whole_told : {A : Type 0} (read : List ℕ → Result A PacketFault) (front : List ℕ) (whole : ℕ) → length front ≡ whole → (r : Result A PacketFault) → read front ≡ r → IsSettledBy read front whole (as_front r)
whole_told read front whole long (Ok a) is = whole_read read front whole (Ok a) long is
whole_told read front whole long (Err e) is = whole_read read front whole (Err e) long is

-- ---- by the version
pub version_front : (front rest : List ℕ) → 0 < length front → version (front ++ rest) ≡ version front
version_front front rest some = ap (λ o. o / 16) (index_front front rest 0 some)

pub not_empty : (front rest : List ℕ) → 0 < length front → (length (front ++ rest) == 0) ≡ false
not_empty front rest some = let sum = length-append front rest in grind (arith, nat_tests)

pub v4_told : (dir : Dir) (front : List ℕ) (whole : ℕ) → 0 < length front → version front ≡ 4 → (r : Result Header FrontFault) → IsSettledBy (reading_v4 dir) front whole r → IsSettledBy (header_of dir) front whole r
v4_told dir front whole some four r told =
    same_read (reading_v4 dir) (header_of dir) front whole (λ rest follows. rw (not_empty front rest some, version_front front rest some, four) refl) r told

pub v6_told : (dir : Dir) (front : List ℕ) (whole : ℕ) → 0 < length front → version front ≡ 6 → (r : Result Header FrontFault) → IsSettledBy (reading_v6 dir) front whole r → IsSettledBy (header_of dir) front whole r
v6_told dir front whole some six r told =
    same_read (reading_v6 dir) (header_of dir) front whole (λ rest follows. rw (not_empty front rest some, version_front front rest some, six) refl) r told

pub version_told : (dir : Dir) (front : List ℕ) (whole : ℕ) → 0 < length front → (version front == 4) ≡ false → (version front == 6) ≡ false → IsSure (header_of dir) front whole (Err fault.Version)
version_told dir front whole some four six = λ rest follows. rw (not_empty front rest some, version_front front rest some, four, six) refl

-- ---- nothing at hand
no_len : (more : List ℕ) → header_len_v4 (64 ∷ more) ≡ 0
unfolding header_len_v4
no_len more = refl

sixty_four : (dir : Dir) (more : List ℕ) → (header_of dir (64 ∷ more) ≡ Err fault.ShortHeader) ⊎ (header_of dir (64 ∷ more) ≡ Err fault.BadHeaderLength)
sixty_four dir more =
    let some = not_empty (64 ∷ []) more (omega arith) in
    elim (cases_Bool (nat_lt (length (64 ∷ more)) 20)) [
      | inl short ↦ inl (rw (some, short) refl)
      | inr long ↦ inr (rw (some, long, no_len more) refl)
    ]

zero_octet : (dir : Dir) (more : List ℕ) → header_of dir (0 ∷ more) ≡ Err fault.Version
zero_octet dir more = let some = not_empty (0 ∷ []) more (omega arith) in rw some refl

pub none_told : (dir : Dir) (whole : ℕ) → 0 < whole → IsOpen (header_of dir) [] whole
none_told dir whole some =
    (0 ∷ blank (whole - 1), 64 ∷ blank (whole - 1), follows 0 (omega arith), follows 64 (omega arith), differ)
  where
    follows : (octet : ℕ) → octet < 256 → MayFollow [] whole (octet ∷ blank (whole - 1))
    follows octet small =
        let rest = blank_len (whole - 1) in
        record { octets = All-cons IsOctet octet (blank (whole - 1)) small (zeros (whole - 1)); long = omega arith }

    differ : header_of dir (0 ∷ blank (whole - 1)) ≢ header_of dir (64 ∷ blank (whole - 1))
    differ same =
        let version = sym (zero_octet dir (blank (whole - 1))) ∙ same in
        elim (sixty_four dir (blank (whole - 1))) [
          | inl short ↦ absurd (let clash = version ∙ short in cc)
          | inr bad ↦ absurd (let clash = version ∙ bad in cc)
        ]
