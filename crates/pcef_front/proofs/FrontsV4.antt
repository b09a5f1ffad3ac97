-- Packets of version 4 of which a front is at hand.
use Rattle.std.proofs.Common.{ℕ, ◌≡◌, ◌≢◌, ◌+◌, ◌-◌, ◌*◌, ◌%◌, ◌<◌, ◌≤◌, ◌∙◌, ◌++◌, ◌==◌, ◌⊎◌, true, false, List, [], ◌∷◌, length, slice_index, Option, None, Result, Ok, Err, refl, sym, ap, arith, inl, inr}
use Rattle.std.specs.Prelude.{nat_lt, if◌then◌else◌}
use Rattle.std.specs.List.{slice_range}
use Rattle.std.proofs.lemmas.Bool.{cases_lt}
use Rattle.std.proofs.lemmas.Bool.Decides.{nat_tests}
use Rattle.std.proofs.lemmas.List.{length-append}
use Rattle.std.proofs.lemmas.List.Elements.{All-append, All-cons, All-nil}
use Rattle.pcef_packet.specs.declared.header.Addr.{Addr}
use Rattle.pcef_packet.specs.declared.header.Addr.TheVariants.{V4, V6}
use Rattle.pcef_packet.specs.declared.header.Dir.{Dir}
use Rattle.pcef_packet.specs.declared.header.Header.{Header}
use Rattle.pcef_packet.specs.declared.header.PacketFault.{PacketFault}
use Rattle.pcef_packet.specs.declared.header.PacketFault.TheVariants as fault
use Rattle.pcef_packet.specs.declared.header.Ports.{Ports}
use Rattle.pcef_packet.specs.HeaderOf.{fragment_offset_v4, header_len_v4, header_v4, number, payload_v4, ports_in, total_len_v4}
use Rattle.pcef_front.specs.Fronts.{IsOpen, IsSure, IsSettledBy, MayFollow}
use Rattle.pcef_front.specs.declared.fault.FrontFault.{FrontFault}
use Rattle.pcef_front.specs.private.Transports.{header_with_v4, ports_read, ports_v4, reading_v4}
use Rattle.pcef_front.proofs.FrontNumbers.{index_front, last_apart, number_front}
use Rattle.pcef_front.proofs.Told.{IsOctet, blank, blank_len, made, on_front, on_ok, same_read, shorter, windowed, zeros}

-- ---- what the front states, the packet states
pub len_front : (front rest : List ℕ) → 0 < length front → header_len_v4 (front ++ rest) ≡ header_len_v4 front
unfolding header_len_v4
len_front front rest some = ap (λ o. 4 * (o % 16)) (index_front front rest 0 some)

pub total_front : (front rest : List ℕ) → 4 ≤ length front → total_len_v4 (front ++ rest) ≡ total_len_v4 front
unfolding total_len_v4
total_front front rest four = number_front front rest 2 2 four

pub offset_front : (front rest : List ℕ) → 20 ≤ length front → fragment_offset_v4 (front ++ rest) ≡ fragment_offset_v4 front
unfolding fragment_offset_v4
offset_front front rest long = ap (λ n. n % 8192) (number_front front rest 6 2 (omega arith))

pub whole_len : (front rest : List ℕ) (whole : ℕ) → MayFollow front whole rest → length (front ++ rest) ≡ whole
whole_len front rest whole follows = let long = follows.long in let sum = length-append front rest in omega arith

less : (a b : ℕ) → a < b → nat_lt a b ≡ true
less a b h = grind (arith, nat_tests)

more : (a b : ℕ) → b ≤ a → nat_lt a b ≡ false
more a b h = grind (arith, nat_tests)

-- ---- what is read, by the lengths
read_short : (dir : Dir) (octets : List ℕ) → length octets < 20 → reading_v4 dir octets ≡ Err fault.ShortHeader
read_short dir octets short = rw (less (length octets) 20 short) refl

read_bad_len : (dir : Dir) (octets : List ℕ) → 20 ≤ length octets → (header_len_v4 octets < 20) ⊎ (length octets < header_len_v4 octets) → reading_v4 dir octets ≡ Err fault.BadHeaderLength
read_bad_len dir octets long bad =
    elim bad [
      | inl low ↦ rw (more (length octets) 20 long, less (header_len_v4 octets) 20 low) refl
      | inr high ↦
          (let least : nat_lt (header_len_v4 octets) 20 ≡ false = more (header_len_v4 octets) 20 (omega arith) in
          rw (more (length octets) 20 long, least, less (length octets) (header_len_v4 octets) high) refl)
    ]

read_bad_total : (dir : Dir) (octets : List ℕ) → 20 ≤ header_len_v4 octets → header_len_v4 octets ≤ length octets
    → (total_len_v4 octets < header_len_v4 octets) ⊎ (length octets < total_len_v4 octets) → reading_v4 dir octets ≡ Err fault.BadTotalLength
read_bad_total dir octets least within bad =
    let one : nat_lt (length octets) 20 ≡ false = more (length octets) 20 (omega arith) in
    elim bad [
      | inl low ↦ rw (one, more (header_len_v4 octets) 20 least, more (length octets) (header_len_v4 octets) within, less (total_len_v4 octets) (header_len_v4 octets) low) refl
      | inr high ↦
          (let order : nat_lt (total_len_v4 octets) (header_len_v4 octets) ≡ false = more (total_len_v4 octets) (header_len_v4 octets) (omega arith) in
          rw (one, more (header_len_v4 octets) 20 least, more (length octets) (header_len_v4 octets) within, order, less (length octets) (total_len_v4 octets) high) refl)
    ]

pub read_fine : (dir : Dir) (octets : List ℕ) → 20 ≤ header_len_v4 octets → header_len_v4 octets ≤ total_len_v4 octets → total_len_v4 octets ≤ length octets → reading_v4 dir octets ≡ Ok (header_v4 dir octets)
read_fine dir octets least order within =
    rw (
      more (length octets) 20 (omega arith),
      more (header_len_v4 octets) 20 least,
      more (length octets) (header_len_v4 octets) (omega arith),
      more (total_len_v4 octets) (header_len_v4 octets) order,
      more (length octets) (total_len_v4 octets) within,
    ) refl

-- ---- the answer for a front, fault by fault
pub short_told : (dir : Dir) (front : List ℕ) (whole : ℕ) → whole < 20 → IsSure (reading_v4 dir) front whole (Err fault.ShortHeader)
short_told dir front whole short = λ rest follows. read_short dir (front ++ rest) (let all = whole_len front rest whole follows in omega arith)

pub bad_len_told : (dir : Dir) (front : List ℕ) (whole : ℕ) → 0 < length front → 20 ≤ whole → (header_len_v4 front < 20) ⊎ (whole < header_len_v4 front)
    → IsSure (reading_v4 dir) front whole (Err fault.BadHeaderLength)
bad_len_told dir front whole some long bad = λ rest follows.
    let all = whole_len front rest whole follows in
    let len = len_front front rest some in
    read_bad_len dir (front ++ rest) (omega arith) (elim bad [ inl low ↦ inl (omega arith) | inr high ↦ inr (omega arith) ])

pub bad_total_told : (dir : Dir) (front : List ℕ) (whole : ℕ) → 4 ≤ length front → 20 ≤ header_len_v4 front → header_len_v4 front ≤ whole
    → (total_len_v4 front < header_len_v4 front) ⊎ (whole < total_len_v4 front) → IsSure (reading_v4 dir) front whole (Err fault.BadTotalLength)
bad_total_told dir front whole four least within bad = λ rest follows.
    let all = whole_len front rest whole follows in
    let len = len_front front rest (omega arith) in
    let total = total_front front rest four in
    read_bad_total dir (front ++ rest) (omega arith) (omega arith) (elim bad [ inl low ↦ inl (omega arith) | inr high ↦ inr (omega arith) ])

-- ---- a header that isn't whole
abbrev pub dst_number : Addr → ℕ
dst_number (V4 n) = n
dst_number (V6 n) = n

abbrev pub dst_in : Result Header PacketFault → ℕ
dst_in (Ok header) = dst_number header.dst
dst_in (Err e) = 0

dst_read : (dir : Dir) (octets : List ℕ) → dst_in (Ok (header_v4 dir octets)) ≡ number octets 16 4
unfolding header_v4
dst_read dir octets = refl

-- the lengths are right as far as the packet's length goes
record AreRight (front : List ℕ) (whole : ℕ) : Type 0 where
  least : 20 ≤ header_len_v4 front
  order : header_len_v4 front ≤ total_len_v4 front
  within : total_len_v4 front ≤ whole

-- the last octet of the destination isn't at hand
one_missing : (dir : Dir) (front : List ℕ) (whole : ℕ) → length front ≡ 19 → AreRight front whole → IsOpen (reading_v4 dir) front whole
one_missing dir front whole long right =
    (0 ∷ blank (whole - 20), 1 ∷ blank (whole - 20), follows 0 (omega arith), follows 1 (omega arith), differ)
  where
    beyond : 20 ≤ whole
    beyond = let a = right.least in let b = right.order in let c = right.within in omega arith

    follows : (octet : ℕ) → octet < 256 → MayFollow front whole (octet ∷ blank (whole - 20))
    follows octet small =
        let rest = blank_len (whole - 20) in
        let long' = beyond in
        record { octets = All-cons IsOctet octet (blank (whole - 20)) small (zeros (whole - 20)); long = omega arith }

    fine : (octet : ℕ) → octet < 256 → reading_v4 dir (front ++ (octet ∷ blank (whole - 20))) ≡ Ok (header_v4 dir (front ++ (octet ∷ blank (whole - 20))))
    fine octet small =
        let all = whole_len front (octet ∷ blank (whole - 20)) whole (follows octet small) in
        let len = len_front front (octet ∷ blank (whole - 20)) (omega arith) in
        let total = total_front front (octet ∷ blank (whole - 20)) (omega arith) in
        let a = right.least in
        let b = right.order in
        let c = right.within in
        read_fine dir (front ++ (octet ∷ blank (whole - 20))) (omega arith) (omega arith) (omega arith)

    differ : reading_v4 dir (front ++ (0 ∷ blank (whole - 20))) ≢ reading_v4 dir (front ++ (1 ∷ blank (whole - 20)))
    differ same =
        let headers = sym (fine 0 (omega arith)) ∙ same ∙ fine 1 (omega arith) in
        let numbers : number (front ++ (0 ∷ blank (whole - 20))) 16 4 ≡ number (front ++ (1 ∷ blank (whole - 20))) 16 4 =
        sym (dst_read dir (front ++ (0 ∷ blank (whole - 20)))) ∙ ap dst_in headers ∙ dst_read dir (front ++ (1 ∷ blank (whole - 20))) in
        let octets : ◌≡◌ {A = ℕ} 0 1 = last_apart front (blank (whole - 20)) 0 1 16 3 long numbers in
        omega arith

pub header_missing : (dir : Dir) (front : List ℕ) (whole : ℕ) → 4 ≤ length front → length front < 20 → 20 ≤ header_len_v4 front → header_len_v4 front ≤ total_len_v4 front → total_len_v4 front ≤ whole
    → IsOpen (reading_v4 dir) front whole
header_missing dir front whole four short least order within =
    let missing = blank_len (19 - length front) in
    let sum = length-append front (blank (19 - length front)) in
    let len = len_front front (blank (19 - length front)) (omega arith) in
    let total = total_front front (blank (19 - length front)) four in
    shorter (reading_v4 dir) front (blank (19 - length front)) whole (zeros (19 - length front))
    (one_missing dir (front ++ blank (19 - length front)) whole (omega arith) (record { least = omega arith; order = omega arith; within = omega arith }))

-- ---- a total length that isn't whole
-- a front of four octets with this header length and this total length
four_missing : (dir : Dir) (a b c d whole : ℕ) → 20 ≤ header_len_v4 (a ∷ []) → header_len_v4 (a ∷ []) ≤ c * 256 + d → c * 256 + d ≤ whole → IsOpen (reading_v4 dir) (a ∷ b ∷ c ∷ d ∷ []) whole
unfolding total_len_v4
four_missing dir a b c d whole least order within =
    let len = len_front (a ∷ []) (b ∷ c ∷ d ∷ []) (omega arith) in
    let total : total_len_v4 (a ∷ b ∷ c ∷ d ∷ []) ≡ c * 256 + d = omega arith in
    header_missing dir (a ∷ b ∷ c ∷ d ∷ []) whole (omega arith) (omega arith) (omega arith) (omega arith) (omega arith)

pub most_len : (front : List ℕ) → header_len_v4 front ≤ 60
unfolding header_len_v4
most_len front = grind arith

pub total_missing : (dir : Dir) (front : List ℕ) (whole : ℕ) → 0 < length front → length front < 4 → 20 ≤ header_len_v4 front → header_len_v4 front ≤ whole
    → slice_index front 2 * 256 ≤ whole → IsOpen (reading_v4 dir) front whole
total_missing dir [] whole some short least within upper = absurd (omega arith)
total_missing dir (a ∷ []) whole some short least within upper =
    let most = most_len (a ∷ []) in
    shorter (reading_v4 dir) (a ∷ []) (0 ∷ 0 ∷ header_len_v4 (a ∷ []) ∷ []) whole
    (All-append IsOctet (blank 2) (header_len_v4 (a ∷ []) ∷ []) (zeros 2) (All-cons IsOctet (header_len_v4 (a ∷ [])) [] (omega arith) (All-nil IsOctet)))
    (four_missing dir a 0 0 (header_len_v4 (a ∷ [])) whole least (omega arith) (omega arith))
total_missing dir (a ∷ b ∷ []) whole some short least within upper =
    let most = most_len (a ∷ []) in
    let len = len_front (a ∷ []) (b ∷ []) (omega arith) in
    shorter (reading_v4 dir) (a ∷ b ∷ []) (0 ∷ header_len_v4 (a ∷ []) ∷ []) whole
    (All-append IsOctet (blank 1) (header_len_v4 (a ∷ []) ∷ []) (zeros 1) (All-cons IsOctet (header_len_v4 (a ∷ [])) [] (omega arith) (All-nil IsOctet)))
    (four_missing dir a b 0 (header_len_v4 (a ∷ [])) whole (omega arith) (omega arith) (omega arith))
total_missing dir (a ∷ b ∷ c ∷ []) whole some short least within upper =
    let most = most_len (a ∷ []) in
    let len = len_front (a ∷ []) (b ∷ c ∷ []) (omega arith) in
    elim (cases_lt 0 c) [
      | inl large ↦ shorter (reading_v4 dir) (a ∷ b ∷ c ∷ []) (blank 1) whole (zeros 1) (four_missing dir a b c 0 whole (omega arith) (omega arith) (omega arith))
      | inr none ↦
          shorter (reading_v4 dir) (a ∷ b ∷ c ∷ []) (header_len_v4 (a ∷ []) ∷ []) whole
          (All-cons IsOctet (header_len_v4 (a ∷ [])) [] (omega arith) (All-nil IsOctet))
          (four_missing dir a b c (header_len_v4 (a ∷ [])) whole (omega arith) (omega arith) (omega arith))
    ]
total_missing dir (a ∷ b ∷ c ∷ d ∷ more) whole some short least within upper = absurd (omega arith)

total_upper : (a b c : ℕ) (rest : List ℕ) → c * 256 ≤ total_len_v4 (a ∷ b ∷ c ∷ rest)
unfolding total_len_v4
total_upper a b c rest = omega arith

-- the upper one of the total length's two octets is enough to see that it is beyond the packet
pub total_beyond : (dir : Dir) (front : List ℕ) (whole : ℕ) → length front ≡ 3 → 20 ≤ header_len_v4 front → header_len_v4 front ≤ whole → whole < slice_index front 2 * 256
    → IsSure (reading_v4 dir) front whole (Err fault.BadTotalLength)
total_beyond dir [] whole three least within beyond = absurd (omega arith)
total_beyond dir (a ∷ []) whole three least within beyond = absurd (omega arith)
total_beyond dir (a ∷ b ∷ []) whole three least within beyond = absurd (omega arith)
total_beyond dir (a ∷ b ∷ c ∷ []) whole three least within beyond = λ rest follows.
    let all = whole_len (a ∷ b ∷ c ∷ []) rest whole follows in
    let len = len_front (a ∷ b ∷ c ∷ []) rest (omega arith) in
    let total = total_upper a b c rest in
    read_bad_total dir (a ∷ b ∷ c ∷ rest) (omega arith) (omega arith) (inr (omega arith))
total_beyond dir (a ∷ b ∷ c ∷ d ∷ more) whole three least within beyond = absurd (omega arith)

-- ---- a header that is whole
-- the ports behind it
pub ports_told : (front : List ℕ) (whole : ℕ) → 20 ≤ length front → length front ≤ whole → header_len_v4 front ≤ total_len_v4 front → total_len_v4 front ≤ whole → (fragment_offset_v4 front == 0) ≡ true
    → (r : Result (Option Ports) FrontFault)
    → IsSettledBy (ports_read (slice_index front 9)) (slice_range front (header_len_v4 front) (total_len_v4 front)) (total_len_v4 front - header_len_v4 front) r → IsSettledBy ports_v4 front whole r
ports_told front whole long short order within first r told =
    same_read (λ octets. ports_read (slice_index front 9) (slice_range octets (header_len_v4 front) (total_len_v4 front))) ports_v4 front whole
    (λ rest follows. rw (
      offset_front front rest long,
      first,
      index_front front rest 9 (omega arith),
      len_front front rest (omega arith),
      total_front front rest (omega arith),
    ) refl) r
    (windowed (ports_read (slice_index front 9)) front whole (header_len_v4 front) (total_len_v4 front) short order within r told)

pub later_told : (front : List ℕ) (whole : ℕ) → 20 ≤ length front → (fragment_offset_v4 front == 0) ≡ false → IsSure ports_v4 front whole (Ok None)
later_told front whole long later = λ rest follows. rw (offset_front front rest long, later) refl

-- the header with them
pub header_front : (dir : Dir) (front rest : List ℕ) → 20 ≤ length front
    → header_v4 dir (front ++ rest)
    ≡ header_with_v4 dir front (if fragment_offset_v4 (front ++ rest) == 0 then ports_in (slice_index (front ++ rest) 9) (payload_v4 (front ++ rest)) else None)
unfolding header_v4
header_front dir front rest long =
    rw (
      number_front front rest 12 4 (omega arith),
      number_front front rest 16 4 (omega arith),
      total_front front rest (omega arith),
      index_front front rest 1 (omega arith),
      index_front front rest 9 (omega arith),
    ) refl

pub header_told : (dir : Dir) (front : List ℕ) (whole : ℕ) → 20 ≤ length front → 20 ≤ header_len_v4 front → header_len_v4 front ≤ total_len_v4 front → total_len_v4 front ≤ whole
    → (r : Result (Option Ports) FrontFault) → IsSettledBy ports_v4 front whole r → IsSettledBy (reading_v4 dir) front whole (on_front (header_with_v4 dir front) r)
header_told dir front whole long least order within r told =
    made ports_v4 (reading_v4 dir) (header_with_v4 dir front) front whole (λ a b same. ap (λ (h : Header). h.ports) same) is r told
  where
    is : (rest : List ℕ) → MayFollow front whole rest → reading_v4 dir (front ++ rest) ≡ on_ok (header_with_v4 dir front) (ports_v4 (front ++ rest))
    is rest follows =
        let all = whole_len front rest whole follows in
        let len = len_front front rest (omega arith) in
        let total = total_front front rest (omega arith) in
        read_fine dir (front ++ rest) (omega arith) (omega arith) (omega arith) ∙ ap Ok (header_front dir front rest long)
