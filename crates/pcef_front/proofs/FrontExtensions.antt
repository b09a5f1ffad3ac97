-- Extension headers of which a front is at hand.
use Rattle.std.proofs.Common.{ℕ, ◌≡◌, ◌≢◌, ◌+◌, ◌-◌, ◌*◌, ◌/◌, ◌<◌, ◌≤◌, ◌∙◌, ◌++◌, ◌==◌, true, false, List, [], ◌∷◌, length, drop, slice_index, Option, Some, None, Result, Ok, Err, refl, sym, ap, subst, arith, inl, inr}
use Rattle.std.specs.Prelude.{nat_lt, not}
use Rattle.std.specs.List.{All, slice_range}
use Rattle.std.proofs.lemmas.Bool.{cases_Bool, cases_lt}
use Rattle.std.proofs.lemmas.Bool.Decides.{nat_tests}
use Rattle.std.proofs.lemmas.List.{length-append, length-drop, take_all}
use Rattle.std.proofs.lemmas.List.Elements.{All-append, All-cons}
use Rattle.pcef_packet.specs.declared.header.PacketFault.{PacketFault}
use Rattle.pcef_packet.specs.declared.header.PacketFault.TheVariants as fault
use Rattle.pcef_packet.specs.declared.header.Ports.{Ports}
use Rattle.pcef_packet.specs.Carrying.{carried_in, past}
use Rattle.pcef_packet.specs.ExtensionHeaders.{extension_len, is_extension, is_fragment, is_later, next_of}
use Rattle.pcef_packet.specs.HeaderOf.{carries_ports, number, ports_in}
use Rattle.pcef_packet.proofs.CarryingLaws.{least_len, step_cut, step_end, step_later, step_on}
use Rattle.pcef_front.specs.Fronts.{IsOpen, IsSure, IsSettledBy, MayFollow}
use Rattle.pcef_front.specs.declared.extensions.Transport.{Transport}
use Rattle.pcef_front.specs.declared.fault.FrontFault.{FrontFault}
use Rattle.pcef_front.specs.declared.fault.FrontFault.TheVariants.{TooFew}
use Rattle.pcef_front.specs.private.Transports.{Passes, ShowsLater, has_ports, ports_at, ports_read, transport, transport_carried, transport_in}
use Rattle.pcef_front.proofs.FrontNumbers.{index_front, number_front}
use Rattle.pcef_front.proofs.FrontPorts.{few_ports, no_carrier, no_protocol, with_ports, without_ports}
use Rattle.pcef_front.proofs.Told.{IsOctet, Keeps, blank, blank_len, made, on_front, on_ok, same_read, shorter, windowed, zeros}

-- ---- what a header in front does to the reading
read_on : (kind next : ℕ) (octets left : List ℕ) → is_extension kind ≡ true → past kind octets ≡ Some (next, left, false) → transport_in kind octets ≡ transport_in next left
unfolding transport_in
read_on kind next octets left extends on = ap transport_carried (sym (step_on kind octets (carried_in kind octets) next left refl extends on))

read_later : (kind next : ℕ) (octets left : List ℕ) → is_extension kind ≡ true → past kind octets ≡ Some (next, left, true) → transport_in kind octets ≡ Ok (transport next None)
unfolding transport_in
read_later kind next octets left extends on = ap transport_carried (sym (step_later kind octets (carried_in kind octets) next left refl extends on))

pub read_cut : (kind : ℕ) (octets : List ℕ) → is_extension kind ≡ true → past kind octets ≡ None → transport_in kind octets ≡ Err fault.BadHeaderLength
unfolding transport_in
read_cut kind octets extends cut = ap transport_carried (sym (step_cut kind octets (carried_in kind octets) refl extends cut))

pub read_end : (kind : ℕ) (octets : List ℕ) → is_extension kind ≡ false → transport_in kind octets ≡ Ok (transport kind (ports_in kind octets))
unfolding transport_in
read_end kind octets ends = ap transport_carried (sym (step_end kind octets (carried_in kind octets) refl ends))

-- ---- a header that is skipped
on_ok_same : {X : Type 0} (r : Result X PacketFault) → on_ok (λ (x : X). x) r ≡ r
on_ok_same (Ok x) = refl
on_ok_same (Err e) = refl

pub pass_on : (kind next len room : ℕ) (left : List ℕ) → length left ≤ room → is_extension kind ≡ true → Passes kind left room next len
    → (r : Result Transport FrontFault) → IsSettledBy (transport_in next) (drop len left) (room - len) r → IsSettledBy (transport_in kind) left room r
pass_on kind next len room left within extends passes r told =
    let cut = length-drop len left in
    let all : slice_range left len room ≡ drop len left = take_all (room - len) (drop len left) (omega arith) in
    let part = windowed (transport_in next) left room len room within passes.1 (omega arith) r (subst (λ l. IsSettledBy (transport_in next) l (room - len) r) (sym all) told) in
    same_read (λ octets. transport_in next (slice_range octets len room)) (transport_in kind) left room is r part
  where
    is : (rest : List ℕ) → MayFollow left room rest → transport_in kind (left ++ rest) ≡ transport_in next (slice_range (left ++ rest) len room)
    is rest follows =
        let sum = length-append left rest in
        let long = follows.long in
        let behind = length-drop len (left ++ rest) in
        let all : slice_range (left ++ rest) len room ≡ drop len (left ++ rest) = take_all (room - len) (drop len (left ++ rest)) (omega arith) in
        read_on kind next (left ++ rest) (drop len (left ++ rest)) extends (passes.2 rest follows) ∙ ap (transport_in next) (sym all)

-- ---- a payload
transport_kept : (proto : ℕ) → Keeps (transport proto)
transport_kept proto a b same = ap (λ (t : Transport). t.ports) same

pub payload_read : (kind room : ℕ) (left : List ℕ) → is_extension kind ≡ false
    → (r : Result (Option Ports) FrontFault) → IsSettledBy (ports_read kind) left room r → IsSettledBy (transport_in kind) left room (on_front (transport kind) r)
payload_read kind room left ends r told =
    made (ports_read kind) (transport_in kind) (transport kind) left room (transport_kept kind) (λ rest follows. read_end kind (left ++ rest) ends) r told

-- ---- headers that aren't whole
-- no header has less than eight octets
no_past : (kind : ℕ) (octets : List ℕ) → length octets < 8 → past kind octets ≡ None
unfolding past
no_past kind octets few =
    let least = least_len kind octets in
    let test : nat_lt (length octets) (extension_len kind octets) ≡ true = grind (arith, nat_tests) in
    rw test refl

read_short : (kind : ℕ) (octets : List ℕ) → is_extension kind ≡ true → length octets < 8 → transport_in kind octets ≡ Err fault.BadHeaderLength
read_short kind octets extends few = read_cut kind octets extends (no_past kind octets few)

pub short_room : (kind room : ℕ) (left : List ℕ) → is_extension kind ≡ true → room < 8 → IsSure (transport_in kind) left room (Err fault.BadHeaderLength)
short_room kind room left extends short = λ rest follows.
    let sum = length-append left rest in
    let long = follows.long in
    read_short kind (left ++ rest) extends (omega arith)

-- a header of eight octets, which names this kind
abbrev eight : ℕ → List ℕ → List ℕ
eight next more = next ∷ 0 ∷ 0 ∷ 0 ∷ 0 ∷ 0 ∷ 0 ∷ 0 ∷ more

past_eight : (kind next : ℕ) (more : List ℕ) → past kind (eight next more) ≡ Some (next, more, false)
unfolding past extension_len is_later
past_eight kind next more =
    let test : nat_lt (length (eight next more)) 8 ≡ false = grind (arith, nat_tests) in
    elim (cases_Bool (is_fragment kind)) [
      | inl fragment ↦ rw (fragment, test) refl
      | inr other ↦ rw (other, test) refl
    ]

read_eight : (kind next : ℕ) (more : List ℕ) → is_extension kind ≡ true → transport_in kind (eight next more) ≡ transport_in next more
read_eight kind next more extends = read_on kind next (eight next more) more extends (past_eight kind next more)

eight_octets : (next : ℕ) (more : List ℕ) → next < 256 → All IsOctet more → All IsOctet (eight next more)
eight_octets next more small rest = All-cons IsOctet next (0 ∷ 0 ∷ 0 ∷ 0 ∷ 0 ∷ 0 ∷ 0 ∷ more) small (All-append IsOctet (blank 7) more (zeros 7) rest)

-- a header without octets at hand
abbrev read_as : ℕ → Option Ports → Result Transport PacketFault
read_as proto ports = Ok (transport proto ports)

abbrev cut : Result Transport PacketFault
cut = Err fault.BadHeaderLength

abbrev ports_of : Result Transport PacketFault → Option Ports
ports_of (Ok t) = t.ports
ports_of (Err e) = None

abbrev proto_of : Result Transport PacketFault → ℕ
proto_of (Ok t) = t.proto
proto_of (Err e) = 0

pub unknown : (kind room : ℕ) → is_extension kind ≡ true → 8 ≤ room → IsOpen (transport_in kind) [] room
unknown kind room extends fits =
    (eight 58 (blank (room - 8)), eight 59 (blank (room - 8)), follows 58 (omega arith), follows 59 (omega arith), differ)
  where
    follows : (next : ℕ) → next < 256 → MayFollow [] room (eight next (blank (room - 8)))
    follows next small =
        let rest = blank_len (room - 8) in
        record { octets = eight_octets next (blank (room - 8)) small (zeros (room - 8)); long = omega arith }

    plain : (next : ℕ) → is_extension next ≡ false → carries_ports next ≡ false → transport_in kind (eight next (blank (room - 8))) ≡ Ok (transport next None)
    plain next ends none =
        read_eight kind next (blank (room - 8)) extends ∙ read_end next (blank (room - 8)) ends
        ∙ ap (λ o. Ok (transport next o)) (no_protocol next (blank (room - 8)) none)

    differ : transport_in kind (eight 58 (blank (room - 8))) ≢ transport_in kind (eight 59 (blank (room - 8)))
    differ same =
        let protos : Ok (transport 58 None) ≡ Ok (transport 59 None) = sym (plain 58 refl refl) ∙ same ∙ plain 59 refl refl in
        let numbers : proto_of (Ok (transport 58 None)) ≡ proto_of (Ok (transport 59 None)) = ap proto_of protos in
        omega arith

-- ---- a header that states its length, of which only the first octet is at hand
options_len : (kind : ℕ) (octets : List ℕ) → is_fragment kind ≡ false → extension_len kind octets ≡ 8 + 8 * slice_index octets 1
unfolding extension_len
options_len kind octets other = rw other refl

options_short : (kind : ℕ) (octets : List ℕ) → length octets < extension_len kind octets → past kind octets ≡ None
unfolding past
options_short kind octets short =
    let test : nat_lt (length octets) (extension_len kind octets) ≡ true = grind (arith, nat_tests) in
    rw test refl

options_whole : (kind : ℕ) (octets : List ℕ) → is_fragment kind ≡ false → extension_len kind octets ≤ length octets → past kind octets ≡ Some (next_of octets, drop (extension_len kind octets) octets, false)
unfolding past is_later
options_whole kind octets other long =
    let test : nat_lt (length octets) (extension_len kind octets) ≡ false = grind (arith, nat_tests) in
    rw (test, other) refl

-- no two headers fit into less than 16 octets
pub first_octet_cut : (kind next room : ℕ) → is_extension kind ≡ true → is_fragment kind ≡ false → is_extension next ≡ true → room < 16 → IsSure (transport_in kind) (next ∷ []) room (Err fault.BadHeaderLength)
first_octet_cut kind next room extends other more few = λ rest follows.
    let long = follows.long in
    elim (cases_Bool (nat_lt (length (next ∷ rest)) (extension_len kind (next ∷ rest)))) [
      | inl short ↦ read_cut kind (next ∷ rest) extends (options_short kind (next ∷ rest) (grind (arith, nat_tests)))
      | inr fits ↦
          (let least = least_len kind (next ∷ rest) in
          let behind = length-drop (extension_len kind (next ∷ rest)) (next ∷ rest) in
          let whole : extension_len kind (next ∷ rest) ≤ length (next ∷ rest) = grind (arith, nat_tests) in
          read_on kind next (next ∷ rest) (drop (extension_len kind (next ∷ rest)) (next ∷ rest)) extends (options_whole kind (next ∷ rest) other whole)
          ∙ read_short next (drop (extension_len kind (next ∷ rest)) (next ∷ rest)) more (omega arith))
    ]

-- what is open behind a header of eight octets is open with its first octet alone
pub behind_eight : (kind next room : ℕ) → is_extension kind ≡ true → 8 ≤ room → IsOpen (transport_in next) [] (room - 8) → IsOpen (transport_in kind) (next ∷ []) room
behind_eight kind next room extends fits tail =
    shorter (transport_in kind) (next ∷ []) (blank 7) room (zeros 7)
    (pass_on kind next 8 room (eight next []) (omega arith) extends (omega arith, omega arith, λ rest follows. past_eight kind next rest) (Err TooFew) tail)

pub first_octet_open : (kind next room : ℕ) → is_extension kind ≡ true → is_extension next ≡ true → 16 ≤ room → IsOpen (transport_in kind) (next ∷ []) room
first_octet_open kind next room extends more fits = behind_eight kind next room extends (omega arith) (unknown next (room - 8) more (omega arith))

pub first_octet_ports : (kind next room : ℕ) → is_extension kind ≡ true → is_extension next ≡ false → has_ports next (room - 8) ≡ true → 8 ≤ room → IsOpen (transport_in kind) (next ∷ []) room
first_octet_ports kind next room extends ends has fits =
    behind_eight kind next room extends (omega arith)
    (payload_read next (room - 8) [] ends (Err TooFew) (few_ports next [] (room - 8) has (omega arith)))

-- a header of 2,048 octets may not fit
pub first_octet_long : (kind next room : ℕ) → is_extension kind ≡ true → is_fragment kind ≡ false → is_extension next ≡ false → 8 ≤ room → room < 2048 → IsOpen (transport_in kind) (next ∷ []) room
first_octet_long kind next room extends other ends fits few = (
  0 ∷ 0 ∷ 0 ∷ 0 ∷ 0 ∷ 0 ∷ 0 ∷ blank (room - 8),
  255 ∷ blank (room - 2),
  record { octets = All-append IsOctet (blank 7) (blank (room - 8)) (zeros 7) (zeros (room - 8)); long = (let rest = blank_len (room - 8) in omega arith) },
  record { octets = All-cons IsOctet 255 (blank (room - 2)) (omega arith) (zeros (room - 2)); long = (let rest = blank_len (room - 2) in omega arith) },
  λ same. differ (sym (read_eight kind next (blank (room - 8)) extends ∙ read_end next (blank (room - 8)) ends) ∙ same ∙ too_long),
)
  where
    too_long : transport_in kind (next ∷ 255 ∷ blank (room - 2)) ≡ cut
    too_long =
        let rest = blank_len (room - 2) in
        let len : extension_len kind (next ∷ 255 ∷ blank (room - 2)) ≡ 2048 = options_len kind (next ∷ 255 ∷ blank (room - 2)) other in
        read_cut kind (next ∷ 255 ∷ blank (room - 2)) extends (options_short kind (next ∷ 255 ∷ blank (room - 2)) (omega arith))

    differ : read_as next (ports_in next (blank (room - 8))) ≢ cut
    differ same = absurd (cc)

-- each header fits into 2,048 octets
pub first_octet_portless : (kind next room : ℕ) → is_extension kind ≡ true → is_fragment kind ≡ false → is_extension next ≡ false → has_ports next (room - 8) ≡ false → 2048 ≤ room → IsSure (transport_in kind) (next ∷ []) room (Ok (transport next None))
first_octet_portless kind next room extends other ends none many = λ rest follows.
    let long = follows.long in
    let second : slice_index rest 0 < 256 = follows.octets 0 0 (omega arith) in
    let len : extension_len kind (next ∷ rest) ≡ 8 + 8 * slice_index rest 0 = options_len kind (next ∷ rest) other in
    read_on kind next (next ∷ rest) (drop (extension_len kind (next ∷ rest)) (next ∷ rest)) extends (options_whole kind (next ∷ rest) other (omega arith))
    ∙ read_end next (drop (extension_len kind (next ∷ rest)) (next ∷ rest)) ends
    ∙ ap (λ o. Ok (transport next o)) (no_protocol next (drop (extension_len kind (next ∷ rest)) (next ∷ rest)) (no_carrier next (room - 8) none (omega arith)))

-- ---- one with more octets at hand
len_at_hand : (kind : ℕ) (left rest : List ℕ) → is_fragment kind ≡ false → 2 ≤ length left → extension_len kind (left ++ rest) ≡ 8 + 8 * slice_index left 1
len_at_hand kind left rest other two = options_len kind (left ++ rest) other ∙ ap (λ n. 8 + 8 * n) (index_front left rest 1 (omega arith))

pub options_cut : (kind room : ℕ) (left : List ℕ) → is_extension kind ≡ true → is_fragment kind ≡ false → 2 ≤ length left → room < 8 + 8 * slice_index left 1 → IsSure (transport_in kind) left room (Err fault.BadHeaderLength)
options_cut kind room left extends other two short = λ rest follows.
    let long = follows.long in
    let sum = length-append left rest in
    let len = len_at_hand kind left rest other two in
    read_cut kind (left ++ rest) extends (options_short kind (left ++ rest) (omega arith))

pub options_passed : (kind room : ℕ) (left : List ℕ) → is_fragment kind ≡ false → 2 ≤ length left → 8 + 8 * slice_index left 1 ≤ room → Passes kind left room (slice_index left 0) (8 + 8 * slice_index left 1)
options_passed kind room left other two fits = (omega arith, fits, passed)
  where
    passed : (rest : List ℕ) → MayFollow left room rest → past kind (left ++ rest) ≡ Some (slice_index left 0, drop (8 + 8 * slice_index left 1) (left ++ rest), false)
    passed rest follows =
        let long = follows.long in
        let sum = length-append left rest in
        let len = len_at_hand kind left rest other two in
        options_whole kind (left ++ rest) other (omega arith)
        ∙ rw (len, index_front left rest 0 (omega arith)) refl

-- ---- a fragment header
later_front : (left rest : List ℕ) → 4 ≤ length left → is_later 44 (left ++ rest) ≡ not ((number left 2 2 / 8) == 0)
unfolding is_later
later_front left rest four = ap (λ n. not ((n / 8) == 0)) (number_front left rest 2 2 (omega arith))

pub later_at_hand : (left : List ℕ) → 4 ≤ length left → ShowsLater left (Some (not ((number left 2 2 / 8) == 0)))
later_at_hand left four = λ rest. later_front left rest four

-- the third octet is the upper one of the offset's two
pub later_by_third : (left : List ℕ) → length left ≡ 3 → 0 < slice_index left 2 → ShowsLater left (Some true)
unfolding is_later
later_by_third [] three some = absurd (omega arith)
later_by_third (x ∷ []) three some = absurd (omega arith)
later_by_third (x ∷ y ∷ []) three some = absurd (omega arith)
later_by_third (x ∷ y ∷ z ∷ []) three some = λ rest. test (slice_index rest 0)
  where
    test : (w : ℕ) → not (((z * 256 + (w * 1 + 0)) / 8) == 0) ≡ true
    test w = grind (arith, nat_tests)
later_by_third (x ∷ y ∷ z ∷ w ∷ more) three some = absurd (omega arith)

fragment_past : (octets : List ℕ) → 8 ≤ length octets → past 44 octets ≡ Some (next_of octets, drop 8 octets, is_later 44 octets)
unfolding past extension_len
fragment_past octets long =
    let test : nat_lt (length octets) 8 ≡ false = grind (arith, nat_tests) in
    rw test refl

pub later_portless : (left : List ℕ) (room : ℕ) → 0 < length left → 8 ≤ room → ShowsLater left (Some true) → IsSure (transport_in 44) left room (Ok (transport (slice_index left 0) None))
later_portless left room some fits later = λ rest follows.
    let long = follows.long in
    let sum = length-append left rest in
    read_later 44 (slice_index left 0) (left ++ rest) (drop 8 (left ++ rest)) refl
    (fragment_past (left ++ rest) (omega arith) ∙ rw (index_front left rest 0 (omega arith), later rest) refl)

pub first_passed : (left : List ℕ) (room : ℕ) → 0 < length left → 8 ≤ room → ShowsLater left (Some false) → Passes 44 left room (slice_index left 0) 8
first_passed left room some fits first = (omega arith, fits, passed)
  where
    passed : (rest : List ℕ) → MayFollow left room rest → past 44 (left ++ rest) ≡ Some (slice_index left 0, drop 8 (left ++ rest), false)
    passed rest follows =
        let long = follows.long in
        let sum = length-append left rest in
        fragment_past (left ++ rest) (omega arith) ∙ rw (index_front left rest 0 (omega arith), first rest) refl

-- whether it is a later one isn't known, and makes no difference
pub either_portless : (left : List ℕ) (room : ℕ) → 0 < length left → 8 ≤ room → is_extension (slice_index left 0) ≡ false → has_ports (slice_index left 0) (room - 8) ≡ false
    → IsSure (transport_in 44) left room (Ok (transport (slice_index left 0) None))
either_portless left room some fits ends none = λ rest follows.
    let long = follows.long in
    let sum = length-append left rest in
    let next : next_of (left ++ rest) ≡ slice_index left 0 = index_front left rest 0 (omega arith) in
    let on = fragment_past (left ++ rest) (omega arith) in
    let cut = length-drop 8 (left ++ rest) in
    let without : ports_in (slice_index left 0) (drop 8 (left ++ rest)) ≡ None = without_ports (slice_index left 0) (room - 8) (drop 8 (left ++ rest)) none (omega arith) in
    elim (cases_Bool (is_later 44 (left ++ rest))) [
      | inl later ↦ read_later 44 (slice_index left 0) (left ++ rest) (drop 8 (left ++ rest)) refl (on ∙ rw (next, later) refl)
      | inr first ↦
          read_on 44 (slice_index left 0) (left ++ rest) (drop 8 (left ++ rest)) refl (on ∙ rw (next, first) refl)
          ∙ read_end (slice_index left 0) (drop 8 (left ++ rest)) ends
          ∙ ap (λ o. Ok (transport (slice_index left 0) o)) without
    ]

-- and where it makes one
abbrev fragment_of : ℕ → ℕ → ℕ → List ℕ → List ℕ
fragment_of x y offset more = x ∷ y ∷ 0 ∷ offset ∷ 0 ∷ 0 ∷ 0 ∷ 0 ∷ more

past_first : (x y : ℕ) (more : List ℕ) → past 44 (fragment_of x y 0 more) ≡ Some (x, more, false)
unfolding past extension_len is_later
past_first x y more =
    let test : nat_lt (length (fragment_of x y 0 more)) 8 ≡ false = grind (arith, nat_tests) in
    rw test refl

past_later : (x y : ℕ) (more : List ℕ) → past 44 (fragment_of x y 8 more) ≡ Some (x, more, true)
unfolding past extension_len is_later
past_later x y more =
    let test : nat_lt (length (fragment_of x y 8 more)) 8 ≡ false = grind (arith, nat_tests) in
    rw test refl

either_apart : (x y room : ℕ) (more : List ℕ) → All IsOctet more → 8 + length more ≡ room → transport_in x more ≢ Ok (transport x None) → IsOpen (transport_in 44) (x ∷ y ∷ 0 ∷ []) room
either_apart x y room more octets long apart = (
  0 ∷ 0 ∷ 0 ∷ 0 ∷ 0 ∷ more,
  8 ∷ 0 ∷ 0 ∷ 0 ∷ 0 ∷ more,
  record { octets = All-append IsOctet (blank 5) more (zeros 5) octets; long = omega arith },
  record { octets = All-cons IsOctet 8 (0 ∷ 0 ∷ 0 ∷ 0 ∷ more) (omega arith) (All-append IsOctet (blank 4) more (zeros 4) octets); long = omega arith },
  λ same. apart (sym (read_on 44 x (fragment_of x y 0 more) more refl (past_first x y more)) ∙ same ∙ read_later 44 x (fragment_of x y 8 more) more refl (past_later x y more)),
)

header_apart : (x y room : ℕ) → is_extension x ≡ true → 8 ≤ room → IsOpen (transport_in 44) (x ∷ y ∷ 0 ∷ []) room
header_apart x y room extends fits =
    elim (cases_lt room 16) [
      | inl few ↦
          (let size = blank_len (room - 8) in
          either_apart x y room (blank (room - 8)) (zeros (room - 8)) (omega arith)
          (λ same. cut_apart (sym (read_short x (blank (room - 8)) extends (omega arith)) ∙ same)))
      | inr many ↦
          (let size = blank_len (room - 16) in
          either_apart x y room (eight 59 (blank (room - 16))) (eight_octets 59 (blank (room - 16)) (omega arith) (zeros (room - 16))) (omega arith)
          (λ same. kind_apart (sym (read_eight x 59 (blank (room - 16)) extends ∙ read_end 59 (blank (room - 16)) refl ∙ ap (λ o. Ok (transport 59 o)) (no_protocol 59 (blank (room - 16)) refl)) ∙ same)))
    ]
  where
    cut_apart : cut ≢ read_as x None
    cut_apart same = absurd (cc)

    kind_apart : read_as 59 None ≢ read_as x None
    kind_apart same =
        let kinds : 59 ≡ x = ap proto_of same in
        let clash : is_extension 59 ≡ true = ap is_extension kinds ∙ extends in
        absurd (cc)

ports_apart : (x y room : ℕ) → is_extension x ≡ false → has_ports x (room - 8) ≡ true → 8 ≤ room → IsOpen (transport_in 44) (x ∷ y ∷ 0 ∷ []) room
ports_apart x y room ends has fits =
    let size = blank_len (room - 8) in
    either_apart x y room (blank (room - 8)) (zeros (room - 8)) (omega arith)
    (λ same. some_apart (sym (read_end x (blank (room - 8)) ends ∙ ap (λ o. Ok (transport x o)) (with_ports x (room - 8) (blank (room - 8)) has (omega arith))) ∙ same))
  where
    some_apart : read_as x (Some (ports_at (blank (room - 8)))) ≢ read_as x None
    some_apart same = let ports : Some (ports_at (blank (room - 8))) ≡ None = ap ports_of same in absurd (cc)

-- it holds for one or two octets of the header, and for three that end with 0
fewer : (left : List ℕ) (room : ℕ) → 0 < length left → length left < 4 → slice_index left 2 ≡ 0
    → ((x y : ℕ) → x ≡ slice_index left 0 → IsOpen (transport_in 44) (x ∷ y ∷ 0 ∷ []) room) → IsOpen (transport_in 44) left room
fewer [] room some few third is = absurd (omega arith)
fewer (x ∷ []) room some few third is = shorter (transport_in 44) (x ∷ []) (blank 2) room (zeros 2) (is x 0 refl)
fewer (x ∷ y ∷ []) room some few third is = shorter (transport_in 44) (x ∷ y ∷ []) (blank 1) room (zeros 1) (is x y refl)
fewer (x ∷ y ∷ z ∷ []) room some few third is = subst (λ w. IsOpen (transport_in 44) (x ∷ y ∷ w ∷ []) room) (sym third) (is x y refl)
fewer (x ∷ y ∷ z ∷ w ∷ more) room some few third is = absurd (omega arith)

pub either_header : (left : List ℕ) (room : ℕ) → 0 < length left → 8 ≤ room → ShowsLater left None → is_extension (slice_index left 0) ≡ true → IsOpen (transport_in 44) left room
either_header left room some fits tells extends =
    fewer left room some tells.0 tells.1 (λ x y is. header_apart x y room (ap is_extension is ∙ extends) fits)

pub either_ports : (left : List ℕ) (room : ℕ) → 0 < length left → 8 ≤ room → ShowsLater left None → is_extension (slice_index left 0) ≡ false → has_ports (slice_index left 0) (room - 8) ≡ true → IsOpen (transport_in 44) left room
either_ports left room some fits tells ends has =
    fewer left room some tells.0 tells.1 (λ x y is. ports_apart x y room (ap is_extension is ∙ ends) (ap (λ p. has_ports p (room - 8)) is ∙ has) fits)
