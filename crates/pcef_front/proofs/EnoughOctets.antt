-- Fronts that hold all headers.
use Rattle.std.proofs.Common.{ℕ, ◌≡◌, ◌+◌, ◌-◌, ◌≤◌, ◌∙◌, ◌++◌, ◌==◌, true, List, length, take, drop, slice_index, None, Result, Ok, Err, refl, sym, ap, arith, inl, inr, append_assoc}
use Rattle.std.specs.Prelude.{nat_le, nat_lt, if◌then◌else◌}
use Rattle.std.proofs.lemmas.Bool.{cases_lt}
use Rattle.std.proofs.lemmas.Bool.Decides.{nat_tests}
use Rattle.std.proofs.lemmas.List.{drop-append-le, length-append, length-drop, length-take, take-append-le, take_all}
use Rattle.pcef_packet.specs.declared.header.Dir.{Dir}
use Rattle.pcef_packet.specs.declared.header.Header.{Header}
use Rattle.pcef_packet.specs.declared.header.PacketFault.{PacketFault}
use Rattle.pcef_packet.specs.declared.header.PacketFault.TheVariants as fault
use Rattle.pcef_packet.specs.Carrying.{carried_in, carried_of}
use Rattle.pcef_packet.specs.ExtensionHeaders.{Carried, IsCarried}
use Rattle.pcef_packet.specs.HeaderOf.{behind_fixed, first_kind, fragment_offset_v4, header_len_v4, payload_v4, ports_in, reading_v6, total_len_v4, volume_v6}
use Rattle.pcef_packet.proofs.ExtensionLaws.{carried_found}
use Rattle.pcef_front.specs.Fronts.{IsOpen, MayFollow}
use Rattle.pcef_front.specs.private.Transports.{header_with_v4, header_with_v6, reading_v4, transport, transport_carried}
use Rattle.pcef_front.proofs.FrontNumbers.{index_front, number_front}
use Rattle.pcef_front.proofs.FrontsV4.{header_front as header_front_v4, len_front, most_len, offset_front, total_front, whole_len}
use Rattle.pcef_front.proofs.FrontsV6.{header_front as header_front_v6, volume_front}
use Rattle.pcef_front.proofs.Told.{on_ok, take_join}

-- ports stand in the first four octets of a payload
ports_enough : (proto n : ℕ) (xs ys : List ℕ) → 4 ≤ length xs → ports_in proto (take n (xs ++ ys)) ≡ ports_in proto (take n xs)
unfolding ports_in
ports_enough proto n xs ys four =
    elim (cases_lt n 4) [
      | inl few ↦ ap (ports_in proto) (take-append-le n xs ys (omega arith))
      | inr many ↦
          (let one = length-take n xs in
          let both = length-append (take n xs) (take (n - length xs) ys) in
          let test : nat_le 4 (length (take n xs)) ≡ true = grind (arith, nat_tests) in
          let more : nat_le 4 (length (take n xs ++ take (n - length xs) ys)) ≡ true = grind (arith, nat_tests) in
          ap (ports_in proto) (take_join n xs ys)
          ∙ rw (test, more, number_front (take n xs) (take (n - length xs) ys) 0 2 (omega arith), number_front (take n xs) (take (n - length xs) ys) 2 2 (omega arith)) refl)
    ]

-- ---- version 4
payload_enough : (front rest : List ℕ) → 20 ≤ length front → header_len_v4 front + 4 ≤ length front
    → ports_in (slice_index (front ++ rest) 9) (payload_v4 (front ++ rest)) ≡ ports_in (slice_index front 9) (payload_v4 front)
payload_enough front rest long enough =
    let cut = length-drop (header_len_v4 front) front in
    let behind : drop (header_len_v4 front) (front ++ rest) ≡ drop (header_len_v4 front) front ++ rest = drop-append-le (header_len_v4 front) front rest (omega arith) in
    rw (index_front front rest 9 (omega arith), len_front front rest (omega arith), total_front front rest (omega arith), behind)
    (ports_enough (slice_index front 9) (total_len_v4 front - header_len_v4 front) (drop (header_len_v4 front) front) rest (omega arith))

-- what is read of the octets in front, in a packet of this length
abbrev faults_in : List ℕ → ℕ → Header → Result Header PacketFault
faults_in front whole header =
    if nat_lt whole 20 then Err fault.ShortHeader
    else if nat_lt (header_len_v4 front) 20 then Err fault.BadHeaderLength
    else if nat_lt whole (header_len_v4 front) then Err fault.BadHeaderLength
    else if nat_lt (total_len_v4 front) (header_len_v4 front) then Err fault.BadTotalLength
    else if nat_lt whole (total_len_v4 front) then Err fault.BadTotalLength
    else Ok header

read_v4_by_front : (dir : Dir) (front rest : List ℕ) (whole : ℕ) → 20 ≤ length front → header_len_v4 front + 4 ≤ length front → MayFollow front whole rest
    → reading_v4 dir (front ++ rest) ≡ faults_in front whole (header_with_v4 dir front (if fragment_offset_v4 front == 0 then ports_in (slice_index front 9) (payload_v4 front) else None))
read_v4_by_front dir front rest whole long enough follows =
    rw (
      whole_len front rest whole follows,
      len_front front rest (omega arith),
      total_front front rest (omega arith),
      header_front_v4 dir front rest long,
      offset_front front rest long,
      payload_enough front rest long enough,
    ) refl

pub closed_v4 : (dir : Dir) (front : List ℕ) (whole : ℕ) → 64 ≤ length front → IsOpen (reading_v4 dir) front whole → ⊥
closed_v4 dir front whole enough told =
    let most = most_len front in
    told.4
    (read_v4_by_front dir front told.0 whole (omega arith) (omega arith) told.2
    ∙ sym (read_v4_by_front dir front told.1 whole (omega arith) (omega arith) told.3))

-- ---- version 6
longer_carried : (kind : ℕ) (octets more : List ℕ) (c : Carried) → IsCarried kind octets c → IsCarried kind (octets ++ more) (carried_of c.proto (c.payload ++ more) c.begins)
longer_carried kind octets more c is = record {
  headers = is.headers;
  later = is.later;
  parts = ap (λ l. l ++ more) is.parts ∙ append_assoc _ c.payload more;
  chain = is.chain;
  ended = is.ended;
  begins_is = is.begins_is;
}

ports_longer : (proto : ℕ) (xs ys : List ℕ) → 4 ≤ length xs → ports_in proto (xs ++ ys) ≡ ports_in proto xs
ports_longer proto xs ys four =
    let sum = length-append xs ys in
    ap (ports_in proto) (sym (take_all (length (xs ++ ys)) (xs ++ ys) (omega arith)))
    ∙ ports_enough proto (length (xs ++ ys)) xs ys four
    ∙ ap (ports_in proto) (take_all (length (xs ++ ys)) xs (omega arith))

carried_longer : (kind : ℕ) (octets more : List ℕ) (c : Carried) → IsCarried kind octets c → 4 ≤ length c.payload
    → transport_carried (carried_in kind (octets ++ more)) ≡ transport_carried (carried_in kind octets)
carried_longer kind octets more c is four =
    ap transport_carried (carried_found kind (octets ++ more) (carried_of c.proto (c.payload ++ more) c.begins) (longer_carried kind octets more c is))
    ∙ ap (λ ports. Ok (transport c.proto (if c.begins then ports else None))) (ports_longer c.proto c.payload more four)
    ∙ ap transport_carried (sym (carried_found kind octets c is))

carried_enough : (kind n : ℕ) (octets more : List ℕ) (c : Carried) → IsCarried kind octets c → 4 ≤ length c.payload
    → transport_carried (carried_in kind (take n (octets ++ more))) ≡ transport_carried (carried_in kind (take n octets))
carried_enough kind n octets more c is four =
    elim (cases_lt (length octets) n) [
      | inl longer ↦
          (let all : take n octets ≡ octets = take_all n octets (omega arith) in
          ap (λ l. transport_carried (carried_in kind l)) (take_join n octets more ∙ ap (λ l. l ++ take (n - length octets) more) all)
          ∙ carried_longer kind octets (take (n - length octets) more) c is four
          ∙ ap (λ l. transport_carried (carried_in kind l)) (sym all))
      | inr within ↦ ap (λ l. transport_carried (carried_in kind l)) (take-append-le n octets more within)
    ]

abbrev volume_fits : List ℕ → ℕ → Result Header PacketFault → Result Header PacketFault
volume_fits front whole r = if nat_lt whole 40 then Err fault.ShortHeader else if nat_lt whole (volume_v6 front) then Err fault.BadTotalLength else r

read_v6_by_front : (dir : Dir) (front rest : List ℕ) (whole : ℕ) (c : Carried) → 40 ≤ length front → IsCarried (first_kind front) (drop 40 front) c → 4 ≤ length c.payload → MayFollow front whole rest
    → reading_v6 dir (front ++ rest) ≡ volume_fits front whole (on_ok (header_with_v6 dir front) (transport_carried (carried_in (first_kind front) (take (volume_v6 front - 40) (drop 40 front)))))
unfolding reading_v6 behind_fixed
read_v6_by_front dir front rest whole c long is four follows =
    rw (
      whole_len front rest whole follows,
      volume_front front rest (omega arith),
      index_front front rest 6 (omega arith),
      drop-append-le 40 front rest long,
      header_front_v6 dir front rest long (carried_in (first_kind front) (take (volume_v6 front - 40) (drop 40 front ++ rest))),
      carried_enough (first_kind front) (volume_v6 front - 40) (drop 40 front) rest c is four,
    ) refl

pub closed_v6 : (dir : Dir) (front : List ℕ) (whole : ℕ) (c : Carried) → 40 ≤ length front → IsCarried (first_kind front) (drop 40 front) c → 4 ≤ length c.payload → IsOpen (reading_v6 dir) front whole → ⊥
closed_v6 dir front whole c long is four told =
    told.4
    (read_v6_by_front dir front told.0 whole c long is four told.2
    ∙ sym (read_v6_by_front dir front told.1 whole c long is four told.3))
