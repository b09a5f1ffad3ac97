-- What the reader of version 6 answers, in the words of its definition.
use Rattle.std.proofs.Common.{ℕ, ◌≡◌, ◌<◌, ◌≤◌, true, false, List, length, Option, Some, None, Result, Ok, Err, refl, sym, ap, arith, inl, inr}
use Rattle.std.specs.Prelude.{MatchResult, nat_lt}
use Rattle.std.proofs.lemmas.Bool.{cases_Bool}
use Rattle.std.proofs.lemmas.Bool.Decides.{nat_tests}
use Rattle.pcef_packet.specs.declared.header.Dir.{Dir}
use Rattle.pcef_packet.specs.declared.header.Header.{Header}
use Rattle.pcef_packet.specs.declared.header.PacketFault.{PacketFault}
use Rattle.pcef_packet.specs.declared.header.PacketFault.TheVariants as fault
use Rattle.pcef_packet.specs.ExtensionHeaders.{Carried}
use Rattle.pcef_packet.specs.Carrying.{carried_in}
use Rattle.pcef_packet.specs.HeaderOf.{IsFaultV6, IsHeaderV6, behind_fixed, first_kind, header_carrying, reading_v6, volume_v6}
use Rattle.pcef_packet.proofs.CarryingLaws.{not_less}
use Rattle.pcef_packet.proofs.ExtensionLaws.{Found, carried_found, cut_found, found}

less : (a b : ℕ) → nat_lt a b ≡ true → a < b
less a b h = grind (arith, nat_tests)

less_test : (a b : ℕ) → a < b → nat_lt a b ≡ true
less_test a b h = grind (arith, nat_tests)

more_test : (a b : ℕ) → b ≤ a → nat_lt a b ≡ false
more_test a b h = grind (arith, nat_tests)

abbrev pub Answers : Dir → List ℕ → Result Header PacketFault → Type 0
Answers dir octets r = MatchResult r (λ h. IsHeaderV6 dir octets h) (λ e. IsFaultV6 octets e)

carrying : (dir : Dir) (octets : List ℕ) → 40 ≤ length octets → volume_v6 octets ≤ length octets → (o : Option Carried) → Found (first_kind octets) (behind_fixed octets) o → Answers dir octets (header_carrying dir octets o)
carrying dir octets fixed given None cut = (fixed, given, cut)
carrying dir octets fixed given (Some c) carries = record { fixed = fixed; given = given; carried = c; carries = carries; is = refl }

-- what is read is the header, or the fault, of the octets
pub read : (dir : Dir) (octets : List ℕ) → Answers dir octets (reading_v6 dir octets)
unfolding reading_v6
read dir octets =
    elim (cases_Bool (nat_lt (length octets) 40)) [
      | inl short ↦ rw short (less (length octets) 40 short)
      | inr fixed ↦
          elim (cases_Bool (nat_lt (length octets) (volume_v6 octets))) [
            | inl beyond ↦ rw (fixed, beyond) (not_less (length octets) 40 fixed, less (length octets) (volume_v6 octets) beyond)
            | inr given ↦
                rw (fixed, given) (carrying dir octets (not_less (length octets) 40 fixed) (not_less (length octets) (volume_v6 octets) given)
                (carried_in (first_kind octets) (behind_fixed octets)) (found (first_kind octets) (behind_fixed octets)))
          ]
    ]

-- the header of the octets is read
pub only : (dir : Dir) (octets : List ℕ) (header : Header) → IsHeaderV6 dir octets header → reading_v6 dir octets ≡ Ok header
unfolding reading_v6
only dir octets header is =
    rw (
      more_test (length octets) 40 is.fixed,
      more_test (length octets) (volume_v6 octets) is.given,
      carried_found (first_kind octets) (behind_fixed octets) is.carried is.carries,
    ) (ap Ok (sym is.is))

-- the fault of the octets is answered
pub only_fault : (dir : Dir) (octets : List ℕ) (e : PacketFault) → IsFaultV6 octets e → reading_v6 dir octets ≡ Err e
unfolding reading_v6
only_fault dir octets fault.Empty is = absurd is
only_fault dir octets fault.Version is = absurd is
only_fault dir octets fault.ShortHeader is = rw (less_test (length octets) 40 is) refl
only_fault dir octets fault.BadTotalLength is = rw (more_test (length octets) 40 is.0, less_test (length octets) (volume_v6 octets) is.1) refl
only_fault dir octets fault.BadHeaderLength is =
    rw (more_test (length octets) 40 is.0, more_test (length octets) (volume_v6 octets) is.1, cut_found (first_kind octets) (behind_fixed octets) is.2) refl
