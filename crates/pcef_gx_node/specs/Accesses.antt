-- What the first CCR of a session tells beside it (TS 29.212, clause 5.6.2).
use Rattle.std.specs.Prelude.{ℕ, ◌≤◌, ◌++◌, Bool, true, nat_le, List, [], ◌∷◌, length, Option, Some, None}
use Rattle.pcef_diameter.specs.Avps.{Shown}
use Rattle.pcef_diameter.specs.Spellings.{avps_octets}
use Rattle.pcef_gx.specs.Codes.{destination_host, ietf}
use Rattle.pcef_gx.specs.Writing.{avp_of, group_avp, number_avp}
use Rattle.pcef_gx.specs.declared.code.Code.{Code}
use Rattle.pcef_gx_messages.specs.Identities.{most_octets}

-- the host of the PCRF, the APN, and the IMSI of the subscriber, each where it is known
pub record Told : Type 0 where
  pub destination_host : Option (List ℕ)
  pub apn : Option (List ℕ)
  pub imsi : Option (List ℕ)

abbrev pub IsShort : Option (List ℕ) → Type 0
IsShort None = Unit {0}
IsShort (Some octets) = length octets ≤ most_octets

abbrev pub is_short : Option (List ℕ) → Bool
is_short None = true
is_short (Some octets) = nat_le (length octets) most_octets

abbrev pub AreShort : Told → Type 0
AreShort t = IsShort t.destination_host × IsShort t.apn × IsShort t.imsi

-- Called-Station-Id (RFC 7155, clause 4.2.5) is the APN (TS 29.212, clause 5.4).
abbrev pub called_station_id : Code
called_station_id = ietf 30

abbrev pub known_avp : Code → Option (List ℕ) → List Shown
known_avp code None = []
known_avp code (Some octets) = avp_of code octets ∷ []

-- Subscription-Id (RFC 8506, clause 8.46) of the type END_USER_IMSI, 1 (clause 8.47)
abbrev pub imsi_avp : Option (List ℕ) → List Shown
imsi_avp None = []
imsi_avp (Some imsi) = group_avp (ietf 443) (number_avp (ietf 450) 1 ∷ avp_of (ietf 444) imsi ∷ []) ∷ []

abbrev pub access_octets : Told → List ℕ
access_octets t =
    avps_octets (known_avp destination_host t.destination_host) ++ (avps_octets (imsi_avp t.imsi)
    ++ avps_octets (known_avp called_station_id t.apn))
