-- The octets of AVPs (RFC 6733, clauses 4 and 4.1).
use Rattle.std.specs.Prelude.{◌<◌, ◌+◌, ◌*◌, ◌-◌, ◌^◌, ◌++◌, ℕ, Bool, true, false, List, [], ◌∷◌, length, replicate, Option, Some, None, IfSome}
use Rattle.std.specs.List.{flat_map}
use Rattle.pcef_diameter.specs.Numbers.{bit, octets_of}
use Rattle.pcef_diameter.specs.Avps.{Shown, behind_avp, header_len, padded, padding_at}

abbrev pub vendor_flag : Option ℕ → Bool
vendor_flag (Some vendor) = true
vendor_flag None = false

-- the AVP Length
abbrev pub avp_len : Shown → ℕ
avp_len a = header_len (vendor_flag a.vendor) + length a.octets

-- the AVP Flags and the AVP Length
unfoldable pub flags_word : Shown → ℕ
flags_word a = (bit (vendor_flag a.vendor) 128 + bit a.mandatory 64 + bit a.protected 32) * 2 ^ 24 + avp_len a

abbrev pub vendor_word : Option ℕ → List ℕ
vendor_word (Some vendor) = vendor ∷ []
vendor_word None = []

-- an AVP with these octets as its padding
abbrev pub octets_with : Shown → List ℕ → List ℕ
octets_with a padding = flat_map octets_of (a.code ∷ flags_word a ∷ vendor_word a.vendor) ++ (a.octets ++ padding)

-- a sender pads with zeros, as many as are missing from a multiple of four octets
unfoldable pub zero_padding : Shown → List ℕ
zero_padding a = replicate (padded (avp_len a) - avp_len a) 0

abbrev pub avp_octets : Shown → List ℕ
avp_octets a = octets_with a (zero_padding a)

abbrev pub avps_octets : List Shown → List ℕ
avps_octets avps = flat_map avp_octets avps

-- an AVP whose numbers have room in their octets
pub record AvpFits (a : Shown) : Type 0 where
  pub code : a.code < 2 ^ 32
  pub vendor : IfSome a.vendor (λ v. v < 2 ^ 32)
  pub len : avp_len a < 2 ^ 24

-- the octets of AVPs that were read, each with the padding that was read
abbrev pub octets_read : List ℕ → List Shown → List ℕ
octets_read octets [] = []
octets_read octets (avp ∷ avps) = octets_with avp (padding_at octets) ++ octets_read (behind_avp octets) avps
