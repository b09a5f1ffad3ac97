-- Laws of the definitions.
use Rattle.std.specs.Prelude.{◌≡◌, ◌<◌, ◌++◌, ◌^◌, ℕ, List, [], ◌∷◌, Option, Some, None, drop}
use Rattle.std.specs.List.{All, AllByRecursion}
use Rattle.pcef_diameter.specs.Avps.{Reads, Shown, behind_avp, padding_at}
use Rattle.pcef_diameter.specs.Headers.{HeaderFits, header_octets, header_of, reserved_at}
use Rattle.pcef_diameter.specs.Spellings.{AvpFits, avps_octets, octets_read, zero_padding}
use Rattle.pcef_diameter.specs.declared.fault.AvpFault.{AvpFault}
use Rattle.pcef_diameter.specs.declared.header.MessageHeader.{MessageHeader}

-- Octets have one list of AVPs, and one fault or none behind them.
abbrev pub OneReading : Type 0
OneReading =
    (octets : List ℕ) (avps others : List Shown) (rest other_rest : List ℕ) (fault other : Option AvpFault)
    → Reads octets avps rest fault
    → Reads octets others other_rest other
    → (avps ≡ others) × (rest ≡ other_rest) × (fault ≡ other)

-- AVPs that were written are read again.
abbrev pub AvpsAgain : Type 0
AvpsAgain = (avps : List Shown) → AllByRecursion AvpFits avps → Reads (avps_octets avps) avps [] None

-- So is a header, whatever stands behind it.
abbrev pub HeaderAgain : Type 0
HeaderAgain = (h : MessageHeader) (rest : List ℕ) → HeaderFits h → header_of (header_octets h ++ rest) ≡ Some h

abbrev pub AreOctets : List ℕ → Type 0
AreOctets octets = All (λ octet. octet < 2 ^ 8) octets

-- Nothing else is read: up to the rest, the octets are those of the AVPs, with whatever padding; each of the AVPs can
-- be written.
abbrev pub NothingElse : Type 0
NothingElse =
    (octets : List ℕ) (avps : List Shown) (rest : List ℕ) (fault : Option AvpFault)
    → AreOctets octets
    → Reads octets avps rest fault
    → AllByRecursion AvpFits avps × (octets ≡ octets_read octets avps ++ rest)

-- each padding is zeros
abbrev pub IsZeroPadded : List ℕ → List Shown → Type 0
IsZeroPadded octets [] = Unit {0}
IsZeroPadded octets (avp ∷ avps) = (padding_at octets ≡ zero_padding avp) × IsZeroPadded (behind_avp octets) avps

-- With zeros as padding, they are what would be written.
abbrev pub NothingElseWithZeros : Type 0
NothingElseWithZeros =
    (octets : List ℕ) (avps : List Shown) (rest : List ℕ) (fault : Option AvpFault)
    → AreOctets octets
    → Reads octets avps rest fault
    → IsZeroPadded octets avps
    → octets ≡ avps_octets avps ++ rest

-- With no reserved bit set, a header is what would be written.
abbrev pub NoOtherHeader : Type 0
NoOtherHeader =
    (octets : List ℕ) (h : MessageHeader)
    → AreOctets octets
    → header_of octets ≡ Some h
    → reserved_at octets ≡ 0
    → HeaderFits h × (octets ≡ header_octets h ++ drop 20 octets)
