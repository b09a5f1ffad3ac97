-- AVPs (RFC 6733, clauses 4 and 4.1), and what it means that they are those of some octets.
use Rattle.std.specs.Prelude.{◌≡◌, ◌<◌, ◌+◌, ◌*◌, ◌-◌, ◌/◌, ◌%◌, ◌==◌, not, ℕ, nat_lt, Bool, true, false, List, [], ◌∷◌, length, take, drop, Option, Some, None, if◌then◌else◌}
use Rattle.pcef_diameter.specs.Numbers.{word_at, first_octet, other_octets}
use Rattle.pcef_diameter.specs.declared.avp.Avp.{Avp}
use Rattle.pcef_diameter.specs.declared.fault.AvpFault.{AvpFault}
use Rattle.pcef_diameter.specs.declared.fault.AvpFault.TheVariants.{Bits, Cut, Length}

-- an AVP, wherever its data lie in memory
pub record Shown : Type 0 where
  pub code : ℕ
  pub vendor : Option ℕ
  pub mandatory : Bool
  pub protected : Bool
  pub octets : List ℕ

abbrev pub shown : Avp → Shown
shown a = record {
  code = a.code;
  vendor = a.vendor;
  mandatory = a.mandatory;
  protected = a.protected;
  octets = a.octets.now;
}

-- The AVP Code stands in octets 0 to 3, the AVP Flags in octet 4, and the AVP Length in octets 5 to 7.
abbrev pub flags_at : List ℕ → ℕ
flags_at octets = first_octet (word_at octets 4)

abbrev pub len_at : List ℕ → ℕ
len_at octets = other_octets (word_at octets 4)

-- The flags are V, M and P from the highest bit on; the other five are reserved.
abbrev pub has_vendor : ℕ → Bool
has_vendor flags = flags / 128 == 1

abbrev pub is_mandatory : ℕ → Bool
is_mandatory flags = flags / 64 % 2 == 1

abbrev pub is_protected : ℕ → Bool
is_protected flags = flags / 32 % 2 == 1

abbrev pub reserved_of : ℕ → ℕ
reserved_of flags = flags % 32

-- With V, the Vendor-ID stands in octets 8 to 11. The data follow.
abbrev pub header_len : Bool → ℕ
header_len true = 12
header_len false = 8

abbrev pub header_at : List ℕ → ℕ
header_at octets = header_len (has_vendor (flags_at octets))

abbrev pub vendor_at : List ℕ → Option ℕ
vendor_at octets = if has_vendor (flags_at octets) then Some (word_at octets 8) else None

-- The AVP Length counts the header and the data. Padding up to a multiple of four octets follows, which it doesn't
-- count.
abbrev pub padded : ℕ → ℕ
padded len = (len + 3) / 4 * 4

-- why the octets begin with no AVP: the first of these
unfoldable pub avp_fault : List ℕ → Option AvpFault
avp_fault octets =
    if nat_lt (length octets) 8 then Some Cut
    else if not (reserved_of (flags_at octets) == 0) then Some Bits
    else if nat_lt (length octets) (header_at octets) then Some Cut
    else if nat_lt (len_at octets) (header_at octets) then Some Length
    else if nat_lt (length octets) (padded (len_at octets)) then Some Length
    else None

-- the AVP that they begin with where there is no fault, its padding, and the octets behind it
unfoldable pub avp_at : List ℕ → Shown
avp_at octets = record {
  code = word_at octets 0;
  vendor = vendor_at octets;
  mandatory = is_mandatory (flags_at octets);
  protected = is_protected (flags_at octets);
  octets = take (len_at octets - header_at octets) (drop (header_at octets) octets);
}

abbrev pub padding_at : List ℕ → List ℕ
padding_at octets = take (padded (len_at octets) - len_at octets) (drop (len_at octets) octets)

unfoldable pub behind_avp : List ℕ → List ℕ
behind_avp octets = drop (padded (len_at octets)) octets

-- The octets are these AVPs, one after another: up to their end where there is no fault, else up to the rest, which
-- begins with the one at fault.
abbrev pub Reads : List ℕ → List Shown → List ℕ → Option AvpFault → Type 0
Reads octets [] rest None = (octets ≡ []) × (rest ≡ [])
Reads octets [] rest (Some fault) = (0 < length octets) × (avp_fault octets ≡ Some fault) × (rest ≡ octets)
Reads octets (avp ∷ avps) rest fault =
    (avp_fault octets ≡ None) × (avp_at octets ≡ avp) × Reads (behind_avp octets) avps rest fault
