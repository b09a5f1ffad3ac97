-- The ports of a payload of which a front is at hand.
use Rattle.std.proofs.Common.{ℕ, ◌≡◌, ◌≢◌, ◌+◌, ◌-◌, ◌*◌, ◌<◌, ◌≤◌, ◌∙◌, ◌++◌, true, false, List, [], ◌∷◌, length, Option, Some, None, Ok, refl, sym, ap, arith, inl, inr}
use Rattle.std.specs.Prelude.{nat_le}
use Rattle.std.proofs.lemmas.Bool.{and_cases, and_parts}
use Rattle.std.proofs.lemmas.Bool.Decides.{nat_tests}
use Rattle.std.proofs.lemmas.List.{length-append}
use Rattle.std.proofs.lemmas.List.Elements.{All-cons}
use Rattle.pcef_packet.specs.HeaderOf.{carries_ports, ports_in}
use Rattle.pcef_packet.specs.declared.header.Ports.{Ports}
use Rattle.pcef_front.specs.Fronts.{IsOpen, IsSure, MayFollow}
use Rattle.pcef_front.specs.private.Transports.{has_ports, ports_at, ports_read}
use Rattle.pcef_front.proofs.FrontNumbers.{number_front}
use Rattle.pcef_front.proofs.Told.{IsOctet, blank, blank_len, shorter, zeros}

pub without_ports : (proto room : ℕ) (payload : List ℕ) → has_ports proto room ≡ false → length payload ≡ room → ports_in proto payload ≡ None
unfolding ports_in
without_ports proto room payload none long = rw (long, none) refl

pub no_protocol : (proto : ℕ) (payload : List ℕ) → carries_ports proto ≡ false → ports_in proto payload ≡ None
unfolding ports_in
no_protocol proto payload none = rw none refl

with_ports_at : (proto : ℕ) (payload : List ℕ) → carries_ports proto ≡ true → 4 ≤ length payload → ports_in proto payload ≡ Some (ports_at payload)
unfolding ports_in
with_ports_at proto payload carries long =
    let test : nat_le 4 (length payload) ≡ true = grind (arith, nat_tests) in
    rw (carries, test) refl

-- ---- a payload that isn't at hand with its ports
abbrev dst_of : Option Ports → ℕ
dst_of None = 0
dst_of (Some ports) = ports.dst

follows_cons : (front : List ℕ) (octet room : ℕ) → octet < 256 → length front < room → MayFollow front room (octet ∷ blank (room - length front - 1))
follows_cons front octet room small short =
    let rest = blank_len (room - length front - 1) in
    record {
      octets = All-cons IsOctet octet (blank (room - length front - 1)) small (zeros (room - length front - 1));
      long = omega arith;
    }

ports_apart : (proto a b c : ℕ) (z : List ℕ) → carries_ports proto ≡ true → ports_read proto (a ∷ b ∷ c ∷ 0 ∷ z) ≢ ports_read proto (a ∷ b ∷ c ∷ 1 ∷ z)
ports_apart proto a b c z carries same =
    let inside : ports_in proto (a ∷ b ∷ c ∷ 0 ∷ z) ≡ ports_in proto (a ∷ b ∷ c ∷ 1 ∷ z) = cc in
    let at : Some (ports_at (a ∷ b ∷ c ∷ 0 ∷ z)) ≡ Some (ports_at (a ∷ b ∷ c ∷ 1 ∷ z)) =
    sym (with_ports_at proto (a ∷ b ∷ c ∷ 0 ∷ z) carries (omega arith)) ∙ inside ∙ with_ports_at proto (a ∷ b ∷ c ∷ 1 ∷ z) carries (omega arith) in
    let last : c * 256 + 0 ≡ c * 256 + 1 = ap dst_of at in
    omega arith

three : (proto a b c room : ℕ) → carries_ports proto ≡ true → 4 ≤ room → IsOpen (ports_read proto) (a ∷ b ∷ c ∷ []) room
three proto a b c room carries long = (
  0 ∷ blank (room - 3 - 1),
  1 ∷ blank (room - 3 - 1),
  follows_cons (a ∷ b ∷ c ∷ []) 0 room (omega arith) (omega arith),
  follows_cons (a ∷ b ∷ c ∷ []) 1 room (omega arith) (omega arith),
  ports_apart proto a b c (blank (room - 3 - 1)) carries,
)

few_octets : (proto : ℕ) (payload : List ℕ) (room : ℕ) → carries_ports proto ≡ true → 4 ≤ room → length payload < 4 → IsOpen (ports_read proto) payload room
few_octets proto [] room carries long short = shorter (ports_read proto) [] (0 ∷ 0 ∷ 0 ∷ []) room (zeros 3) (three proto 0 0 0 room carries long)
few_octets proto (a ∷ []) room carries long short = shorter (ports_read proto) (a ∷ []) (0 ∷ 0 ∷ []) room (zeros 2) (three proto a 0 0 room carries long)
few_octets proto (a ∷ b ∷ []) room carries long short = shorter (ports_read proto) (a ∷ b ∷ []) (0 ∷ []) room (zeros 1) (three proto a b 0 room carries long)
few_octets proto (a ∷ b ∷ c ∷ []) room carries long short = three proto a b c room carries long
few_octets proto (a ∷ b ∷ c ∷ d ∷ more) room carries long short = absurd (omega arith)

-- what it means that there are ports
both : (proto room : ℕ) → has_ports proto room ≡ true → (carries_ports proto ≡ true) × (4 ≤ room)
both proto room has = let parts = and_parts (carries_ports proto) (nat_le 4 room) has in (parts.0, let test = parts.1 in grind (arith, nat_tests))

pub few_ports : (proto : ℕ) (payload : List ℕ) (room : ℕ) → has_ports proto room ≡ true → length payload < 4 → IsOpen (ports_read proto) payload room
few_ports proto payload room has short = let is = both proto room has in few_octets proto payload room is.0 is.1 short

pub no_ports : (proto : ℕ) (payload : List ℕ) (room : ℕ) → has_ports proto room ≡ false → IsSure (ports_read proto) payload room (Ok None)
no_ports proto payload room none = λ rest follows.
    let long = follows.long in
    let sum = length-append payload rest in
    ap Ok (without_ports proto room (payload ++ rest) none (omega arith))

-- ---- one that is
all_octets : (proto : ℕ) (payload : List ℕ) (room : ℕ) → carries_ports proto ≡ true → 4 ≤ length payload → IsSure (ports_read proto) payload room (Ok (Some (ports_at payload)))
all_octets proto payload room carries long = λ rest follows.
    let sum = length-append payload rest in
    ap Ok (with_ports_at proto (payload ++ rest) carries (omega arith)
    ∙ rw (number_front payload rest 0 2 (omega arith), number_front payload rest 2 2 (omega arith)) refl)

pub all_ports : (proto : ℕ) (payload : List ℕ) (room : ℕ) → has_ports proto room ≡ true → 4 ≤ length payload → IsSure (ports_read proto) payload room (Ok (Some (ports_at payload)))
all_ports proto payload room has long = all_octets proto payload room (both proto room has).0 long

pub with_ports : (proto room : ℕ) (payload : List ℕ) → has_ports proto room ≡ true → room ≤ length payload → ports_in proto payload ≡ Some (ports_at payload)
with_ports proto room payload has long = let is = both proto room has in with_ports_at proto payload is.0 (omega arith)

-- where there is room for ports, the protocol has none
pub no_carrier : (proto room : ℕ) → has_ports proto room ≡ false → 4 ≤ room → carries_ports proto ≡ false
no_carrier proto room none long =
    let test : nat_le 4 room ≡ true = grind (arith, nat_tests) in
    elim (and_cases (carries_ports proto) (nat_le 4 room) none) [
      | inl other ↦ other
      | inr short ↦ absurd (let clash = sym test ∙ short in cc)
    ]
