-- Packets of version 6 of which a front is at hand.
use Rattle.std.proofs.Common.{ℕ, ◌≡◌, ◌≢◌, ◌+◌, ◌-◌, ◌*◌, ◌<◌, ◌≤◌, ◌∙◌, ◌++◌, ◌⊎◌, true, false, List, [], ◌∷◌, length, take, drop, slice_index, Option, Some, None, Result, Ok, Err, refl, sym, ap, subst, arith, inl, inr}
use Rattle.std.specs.Prelude.{nat_lt}
use Rattle.std.specs.List.{All, slice_range}
use Rattle.std.proofs.lemmas.Bool.Decides.{nat_tests}
use Rattle.std.proofs.lemmas.List.{drop_all, length-append, length-drop, take_all}
use Rattle.std.proofs.lemmas.List.Elements.{All-append, All-cons, All-nil}
use Rattle.std.proofs.Math.Seq.{drop-append-add, take-append_seam}
use Rattle.pcef_packet.specs.declared.header.Dir.{Dir}
use Rattle.pcef_packet.specs.declared.header.Header.{Header}
use Rattle.pcef_packet.specs.declared.header.PacketFault.{PacketFault}
use Rattle.pcef_packet.specs.declared.header.PacketFault.TheVariants as fault
use Rattle.pcef_packet.specs.Carrying.{carried_in}
use Rattle.pcef_packet.specs.ExtensionHeaders.{Carried}
use Rattle.pcef_packet.specs.HeaderOf.{behind_fixed, first_kind, header_carrying, header_v6, number, ports_in, reading_v6, volume_v6}
use Rattle.pcef_front.specs.Fronts.{IsOpen, IsSure, IsSettledBy, MayFollow}
use Rattle.pcef_front.specs.declared.extensions.Transport.{Transport}
use Rattle.pcef_front.specs.declared.fault.FrontFault.{FrontFault}
use Rattle.pcef_front.specs.declared.fault.FrontFault.TheVariants.{TooFew, Packet}
use Rattle.pcef_front.specs.private.Transports.{header_with_v6, transport, transport_carried, transport_in}
use Rattle.pcef_front.proofs.FrontExtensions.{read_end}
use Rattle.pcef_front.proofs.FrontNumbers.{at_seam, index_front, last_apart, number_front}
use Rattle.pcef_front.proofs.FrontsV4.{dst_in}
use Rattle.pcef_front.proofs.Told.{IsOctet, blank, blank_len, made, on_front, on_ok, shorter, windowed, zeros}

-- ---- what the front states, the packet states
pub volume_front : (front rest : List ℕ) → 6 ≤ length front → volume_v6 (front ++ rest) ≡ volume_v6 front
unfolding volume_v6
volume_front front rest six = ap (λ n. 40 + n) (number_front front rest 4 2 six)

least_volume : (octets : List ℕ) → 40 ≤ volume_v6 octets
unfolding volume_v6
least_volume octets = omega arith

whole_len : (front rest : List ℕ) (whole : ℕ) → MayFollow front whole rest → length (front ++ rest) ≡ whole
whole_len front rest whole follows = let long = follows.long in let sum = length-append front rest in omega arith

less : (a b : ℕ) → a < b → nat_lt a b ≡ true
less a b h = grind (arith, nat_tests)

more : (a b : ℕ) → b ≤ a → nat_lt a b ≡ false
more a b h = grind (arith, nat_tests)

-- ---- what is read, by the lengths
read_short : (dir : Dir) (octets : List ℕ) → length octets < 40 → reading_v6 dir octets ≡ Err fault.ShortHeader
unfolding reading_v6
read_short dir octets short = rw (less (length octets) 40 short) refl

read_beyond : (dir : Dir) (octets : List ℕ) → 40 ≤ length octets → length octets < volume_v6 octets → reading_v6 dir octets ≡ Err fault.BadTotalLength
unfolding reading_v6
read_beyond dir octets long beyond = rw (more (length octets) 40 long, less (length octets) (volume_v6 octets) beyond) refl

read_within : (dir : Dir) (octets : List ℕ) → volume_v6 octets ≤ length octets → reading_v6 dir octets ≡ header_carrying dir octets (carried_in (first_kind octets) (slice_range octets 40 (volume_v6 octets)))
unfolding reading_v6 behind_fixed
read_within dir octets within =
    let least = least_volume octets in
    rw (more (length octets) 40 (omega arith), more (length octets) (volume_v6 octets) within) refl

-- ---- the answer for a front, fault by fault
pub short_told : (dir : Dir) (front : List ℕ) (whole : ℕ) → whole < 40 → IsSure (reading_v6 dir) front whole (Err fault.ShortHeader)
short_told dir front whole short = λ rest follows. read_short dir (front ++ rest) (let all = whole_len front rest whole follows in omega arith)

pub beyond_told : (dir : Dir) (front : List ℕ) (whole : ℕ) → 6 ≤ length front → 40 ≤ whole → whole < volume_v6 front → IsSure (reading_v6 dir) front whole (Err fault.BadTotalLength)
beyond_told dir front whole six long beyond = λ rest follows.
    let all = whole_len front rest whole follows in
    let volume = volume_front front rest six in
    read_beyond dir (front ++ rest) (omega arith) (omega arith)

-- ---- a header that is whole
pub header_front : (dir : Dir) (front rest : List ℕ) → 40 ≤ length front → (o : Option Carried) → header_carrying dir (front ++ rest) o ≡ on_ok (header_with_v6 dir front) (transport_carried o)
unfolding header_v6
header_front dir front rest long None = refl
header_front dir front rest long (Some c) =
    rw (
      number_front front rest 8 16 (omega arith),
      number_front front rest 24 16 (omega arith),
      number_front front rest 0 2 (omega arith),
      volume_front front rest (omega arith),
    ) refl

pub header_told : (dir : Dir) (front : List ℕ) (whole : ℕ) → 40 ≤ length front → length front ≤ whole → volume_v6 front ≤ whole
    → (r : Result Transport FrontFault) → IsSettledBy (transport_in (slice_index front 6)) (slice_range front 40 (volume_v6 front)) (volume_v6 front - 40) r
    → IsSettledBy (reading_v6 dir) front whole (on_front (header_with_v6 dir front) r)
unfolding transport_in
header_told dir front whole long short within r told =
    made (λ octets. transport_in (slice_index front 6) (slice_range octets 40 (volume_v6 front))) (reading_v6 dir) (header_with_v6 dir front) front whole
    (λ a b same. ap (λ (h : Header). transport h.proto h.ports) same) is r
    (windowed (transport_in (slice_index front 6)) front whole 40 (volume_v6 front) short (least_volume front) within r told)
  where
    is : (rest : List ℕ) → MayFollow front whole rest
        → reading_v6 dir (front ++ rest) ≡ on_ok (header_with_v6 dir front) (transport_in (slice_index front 6) (slice_range (front ++ rest) 40 (volume_v6 front)))
    is rest follows =
        let all = whole_len front rest whole follows in
        let volume = volume_front front rest (omega arith) in
        read_within dir (front ++ rest) (omega arith)
        ∙ rw (index_front front rest 6 (omega arith), volume) (header_front dir front rest long (carried_in (slice_index front 6) (slice_range (front ++ rest) 40 (volume_v6 front))))

-- ---- a header that isn't whole
dst_read : (dir : Dir) (octets : List ℕ) (c : Carried) → dst_in (Ok (header_v6 dir octets c)) ≡ number octets 24 16
unfolding header_v6
dst_read dir octets c = refl

abbrev completed : List ℕ → List ℕ → ℕ → ℕ → List ℕ
completed front chain beyond octet = front ++ (octet ∷ (chain ++ blank beyond))

chain_behind : (front chain : List ℕ) (octet beyond volume : ℕ) → length front ≡ 39 → 40 + length chain ≡ volume → slice_range (completed front chain beyond octet) 40 volume ≡ chain
chain_behind front chain octet beyond volume long size =
    let place : 40 ≡ length front + 1 = omega arith in
    let count : volume - 40 ≡ length chain = omega arith in
    let behind : drop 40 (completed front chain beyond octet) ≡ chain ++ blank beyond =
    ap (λ n. drop n (completed front chain beyond octet)) place ∙ drop-append-add front (octet ∷ (chain ++ blank beyond)) 1 in
    ap (take (volume - 40)) behind ∙ ap (λ n. take n (chain ++ blank beyond)) count ∙ take-append_seam chain (blank beyond)

carried_from : (o : Option Carried) (t : Transport) → transport_carried o ≡ Ok t → (c : Carried) × (o ≡ Some c)
carried_from None t is = absurd (cc)
carried_from (Some c) t is = (c, refl)

-- what a chain of headers carries
record Carries (kind : ℕ) (chain : List ℕ) : Type 0 where
  octets : All IsOctet chain
  carried : Carried
  is : carried_in kind chain ≡ Some carried

carries : (kind : ℕ) (chain : List ℕ) (t : Transport) → All IsOctet chain → transport_in kind chain ≡ Ok t → Carries kind chain
unfolding transport_in
carries kind chain t octets is =
    let found = carried_from (carried_in kind chain) t is in
    record { octets = octets; carried = found.0; is = found.1 }

-- the last octet of the destination isn't at hand
one_missing : (dir : Dir) (front chain : List ℕ) (whole : ℕ) → length front ≡ 39 → volume_v6 front ≤ whole → 40 + length chain ≡ volume_v6 front → Carries (slice_index front 6) chain → IsOpen (reading_v6 dir) front whole
one_missing dir front chain whole long within size c =
    (0 ∷ (chain ++ blank (whole - volume_v6 front)), 1 ∷ (chain ++ blank (whole - volume_v6 front)), follows 0 (omega arith), follows 1 (omega arith), differ)
  where
    follows : (octet : ℕ) → octet < 256 → MayFollow front whole (octet ∷ (chain ++ blank (whole - volume_v6 front)))
    follows octet small =
        let rest = blank_len (whole - volume_v6 front) in
        let sum = length-append chain (blank (whole - volume_v6 front)) in
        record {
          octets = All-cons IsOctet octet (chain ++ blank (whole - volume_v6 front)) small
              (All-append IsOctet chain (blank (whole - volume_v6 front)) c.octets (zeros (whole - volume_v6 front)));
          long = omega arith;
        }

    fine : (octet : ℕ) → octet < 256
        → reading_v6 dir (completed front chain (whole - volume_v6 front) octet) ≡ Ok (header_v6 dir (completed front chain (whole - volume_v6 front) octet) c.carried)
    fine octet small =
        let rest = octet ∷ (chain ++ blank (whole - volume_v6 front)) in
        let all = whole_len front rest whole (follows octet small) in
        let volume = volume_front front rest (omega arith) in
        let behind = chain_behind front chain octet (whole - volume_v6 front) (volume_v6 front) long size in
        read_within dir (front ++ rest) (omega arith)
        ∙ rw (index_front front rest 6 (omega arith), volume, behind) (ap (header_carrying dir (front ++ rest)) c.is)

    differ : reading_v6 dir (completed front chain (whole - volume_v6 front) 0) ≢ reading_v6 dir (completed front chain (whole - volume_v6 front) 1)
    differ same =
        let headers = sym (fine 0 (omega arith)) ∙ same ∙ fine 1 (omega arith) in
        let numbers : number (completed front chain (whole - volume_v6 front) 0) 24 16 ≡ number (completed front chain (whole - volume_v6 front) 1) 24 16 =
        sym (dst_read dir (completed front chain (whole - volume_v6 front) 0) c.carried) ∙ ap dst_in headers
        ∙ dst_read dir (completed front chain (whole - volume_v6 front) 1) c.carried in
        let octets : ◌≡◌ {A = ℕ} 0 1 = last_apart front (chain ++ blank (whole - volume_v6 front)) 0 1 24 15 long numbers in
        omega arith

addresses_missing : (dir : Dir) (front chain : List ℕ) (whole : ℕ) → 7 ≤ length front → length front < 40 → volume_v6 front ≤ whole → 40 + length chain ≡ volume_v6 front → Carries (slice_index front 6) chain
    → IsOpen (reading_v6 dir) front whole
addresses_missing dir front chain whole seven short within size c =
    let filler = blank (39 - length front) in
    let missing = blank_len (39 - length front) in
    let sum = length-append front (blank (39 - length front)) in
    let volume = volume_front front (blank (39 - length front)) (omega arith) in
    shorter (reading_v6 dir) front (blank (39 - length front)) whole (zeros (39 - length front))
    (one_missing dir (front ++ blank (39 - length front)) chain whole (omega arith) (omega arith) (omega arith)
    (subst (λ kind. Carries kind chain) (sym (index_front front (blank (39 - length front)) 6 (omega arith))) c))

blank_carries : (room : ℕ) → Carries 59 (blank room)
blank_carries room = carries 59 (blank room) (transport 59 (ports_in 59 (blank room))) (zeros room) (read_end 59 (blank room) refl)

-- the first kind isn't at hand
pub kind_missing : (dir : Dir) (front : List ℕ) (whole : ℕ) → length front ≡ 6 → volume_v6 front ≤ whole → IsOpen (reading_v6 dir) front whole
kind_missing dir front whole six within =
    let sum = length-append front (59 ∷ []) in
    let volume = volume_front front (59 ∷ []) (omega arith) in
    let least = least_volume front in
    let rest = blank_len (volume_v6 front - 40) in
    let kind : slice_index (front ++ (59 ∷ [])) 6 ≡ 59 = ap (slice_index (front ++ (59 ∷ []))) (sym six) ∙ at_seam front 59 [] in
    shorter (reading_v6 dir) front (59 ∷ []) whole (All-cons IsOctet 59 [] (omega arith) (All-nil IsOctet))
    (addresses_missing dir (front ++ (59 ∷ [])) (blank (volume_v6 front - 40)) whole (omega arith) (omega arith) (omega arith) (omega arith)
    (subst (λ k. Carries k (blank (volume_v6 front - 40))) (sym kind) (blank_carries (volume_v6 front - 40))))

-- ---- a payload length that isn't whole
six_missing : (dir : Dir) (a b c d e f whole : ℕ) → 40 + (e * 256 + f) ≤ whole → IsOpen (reading_v6 dir) (a ∷ b ∷ c ∷ d ∷ e ∷ f ∷ []) whole
unfolding volume_v6
six_missing dir a b c d e f whole within =
    let volume : volume_v6 (a ∷ b ∷ c ∷ d ∷ e ∷ f ∷ []) ≡ 40 + (e * 256 + f) = omega arith in
    kind_missing dir (a ∷ b ∷ c ∷ d ∷ e ∷ f ∷ []) whole (omega arith) (omega arith)

pub volume_missing : (dir : Dir) (front : List ℕ) (whole : ℕ) → 0 < length front → length front < 6 → 40 + slice_index front 4 * 256 ≤ whole → IsOpen (reading_v6 dir) front whole
volume_missing dir [] whole some few within = absurd (omega arith)
volume_missing dir (a ∷ []) whole some few within = shorter (reading_v6 dir) (a ∷ []) (blank 5) whole (zeros 5) (six_missing dir a 0 0 0 0 0 whole (omega arith))
volume_missing dir (a ∷ b ∷ []) whole some few within = shorter (reading_v6 dir) (a ∷ b ∷ []) (blank 4) whole (zeros 4) (six_missing dir a b 0 0 0 0 whole (omega arith))
volume_missing dir (a ∷ b ∷ c ∷ []) whole some few within = shorter (reading_v6 dir) (a ∷ b ∷ c ∷ []) (blank 3) whole (zeros 3) (six_missing dir a b c 0 0 0 whole (omega arith))
volume_missing dir (a ∷ b ∷ c ∷ d ∷ []) whole some few within = shorter (reading_v6 dir) (a ∷ b ∷ c ∷ d ∷ []) (blank 2) whole (zeros 2) (six_missing dir a b c d 0 0 whole (omega arith))
volume_missing dir (a ∷ b ∷ c ∷ d ∷ e ∷ []) whole some few within = shorter (reading_v6 dir) (a ∷ b ∷ c ∷ d ∷ e ∷ []) (blank 1) whole (zeros 1) (six_missing dir a b c d e 0 whole (omega arith))
volume_missing dir (a ∷ b ∷ c ∷ d ∷ e ∷ f ∷ more) whole some few within = absurd (omega arith)

volume_upper : (a b c d e : ℕ) (rest : List ℕ) → 40 + e * 256 ≤ volume_v6 (a ∷ b ∷ c ∷ d ∷ e ∷ rest)
unfolding volume_v6
volume_upper a b c d e rest = omega arith

-- the upper one of the payload length's two octets is enough to see that the volume is beyond the packet
pub volume_beyond : (dir : Dir) (front : List ℕ) (whole : ℕ) → length front ≡ 5 → 40 ≤ whole → whole < 40 + slice_index front 4 * 256 → IsSure (reading_v6 dir) front whole (Err fault.BadTotalLength)
volume_beyond dir (a ∷ b ∷ c ∷ d ∷ e ∷ []) whole five long beyond = λ rest follows.
    let all = whole_len (a ∷ b ∷ c ∷ d ∷ e ∷ []) rest whole follows in
    let upper = volume_upper a b c d e rest in
    read_beyond dir (a ∷ b ∷ c ∷ d ∷ e ∷ rest) (omega arith) (omega arith)
volume_beyond dir [] whole five long beyond = absurd (omega arith)
volume_beyond dir (a ∷ []) whole five long beyond = absurd (omega arith)
volume_beyond dir (a ∷ b ∷ []) whole five long beyond = absurd (omega arith)
volume_beyond dir (a ∷ b ∷ c ∷ []) whole five long beyond = absurd (omega arith)
volume_beyond dir (a ∷ b ∷ c ∷ d ∷ []) whole five long beyond = absurd (omega arith)
volume_beyond dir (a ∷ b ∷ c ∷ d ∷ e ∷ f ∷ more) whole five long beyond = absurd (omega arith)

-- ---- a fixed header that isn't whole, by what may stand behind it
abbrev pub only_fault : Result Transport FrontFault → FrontFault
only_fault (Ok t) = TooFew
only_fault (Err e) = e

one_fault : (o : Option Carried) (e : PacketFault) → transport_carried o ≡ Err e → fault.BadHeaderLength ≡ e
one_fault None e is = cc
one_fault (Some c) e is = absurd (cc)

same_fault : (dir : Dir) (octets : List ℕ) (o : Option Carried) (e : PacketFault) → transport_carried o ≡ Err e → header_carrying dir octets o ≡ Err e
same_fault dir octets None e is = ap Err (one_fault None e is)
same_fault dir octets (Some c) e is = absurd (cc)

cut_told : (dir : Dir) (front : List ℕ) (whole : ℕ) (e : PacketFault) → 7 ≤ length front → length front < 40 → volume_v6 front ≤ whole
    → IsSure (transport_in (slice_index front 6)) [] (volume_v6 front - 40) (Err e) → IsSure (reading_v6 dir) front whole (Err e)
unfolding transport_in
cut_told dir front whole e seven short within told = λ rest follows.
    let all = whole_len front rest whole follows in
    let least = least_volume front in
    let volume = volume_front front rest (omega arith) in
    let cut = length-drop 40 front in
    let none : slice_range front 40 (volume_v6 front) ≡ [] =
    ap (take (volume_v6 front - 40)) (drop_all 40 front (omega arith)) ∙ take_all (volume_v6 front - 40) [] (omega arith) in
    let part = windowed (transport_in (slice_index front 6)) front whole 40 (volume_v6 front) (omega arith) least within (Err (Packet e))
    (subst (λ l. IsSure (transport_in (slice_index front 6)) l (volume_v6 front - 40) (Err e)) (sym none) told) in
    read_within dir (front ++ rest) (omega arith)
    ∙ rw (index_front front rest 6 (omega arith), volume)
    (same_fault dir (front ++ rest) (carried_in (slice_index front 6) (slice_range (front ++ rest) 40 (volume_v6 front))) e (part rest follows))

-- of two chains that are read differently, one is whole
one_whole : (kind : ℕ) (one other : List ℕ) → transport_in kind one ≢ transport_in kind other → (r s : Result Transport PacketFault) → transport_in kind one ≡ r → transport_in kind other ≡ s
    → All IsOctet one → All IsOctet other → (Carries kind one) ⊎ (Carries kind other)
unfolding transport_in
one_whole kind one other differ (Ok t) s is also octets more = inl (carries kind one t octets is)
one_whole kind one other differ (Err e) (Ok t) is also octets more = inr (carries kind other t more also)
one_whole kind one other differ (Err e) (Err g) is also octets more =
    absurd (differ (is ∙ ap Err (sym (one_fault (carried_in kind one) e is) ∙ one_fault (carried_in kind other) g also) ∙ sym also))

pub addresses_told : (dir : Dir) (front : List ℕ) (whole : ℕ) → 7 ≤ length front → length front < 40 → volume_v6 front ≤ whole
    → (r : Result Transport FrontFault) → IsSettledBy (transport_in (slice_index front 6)) [] (volume_v6 front - 40) r → IsSettledBy (reading_v6 dir) front whole (Err (only_fault r))
addresses_told dir front whole seven short within (Ok t) told =
    let rest = blank_len (volume_v6 front - 40) in
    let least = least_volume front in
    let is = told (blank (volume_v6 front - 40)) (record { octets = zeros (volume_v6 front - 40); long = omega arith }) in
    addresses_missing dir front (blank (volume_v6 front - 40)) whole seven short within (omega arith)
    (carries (slice_index front 6) (blank (volume_v6 front - 40)) t (zeros (volume_v6 front - 40)) is)
addresses_told dir front whole seven short within (Err (Packet e)) told = cut_told dir front whole e seven short within told
addresses_told dir front whole seven short within (Err TooFew) told =
    let least = least_volume front in
    let first = told.2 in
    let second = told.3 in
    let one = first.long in
    let other = second.long in
    elim (one_whole (slice_index front 6) told.0 told.1 told.4 (transport_in (slice_index front 6) told.0) (transport_in (slice_index front 6) told.1) refl refl first.octets second.octets) [
      | inl c ↦ addresses_missing dir front told.0 whole seven short within (omega arith) c
      | inr c ↦ addresses_missing dir front told.1 whole seven short within (omega arith) c
    ]
