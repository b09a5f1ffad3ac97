-- What a node answers for itself (RFC 6733, clauses 5.4.2, 5.5.2, 6.2 and 7.2).
use Rattle.std.specs.Prelude.{◌≡◌, ℕ, ◌≤◌, ◌+◌, ◌++◌, true, false, List, [], ◌∷◌, length, Option, Some, None}
use Rattle.std.specs.List.{find}
use Rattle.pcef_diameter.specs.Avps.{Reads, Shown}
use Rattle.pcef_diameter.specs.Headers.{header_octets}
use Rattle.pcef_diameter.specs.Spellings.{avps_octets}
use Rattle.pcef_diameter.specs.declared.fault.AvpFault.{AvpFault}
use Rattle.pcef_diameter.specs.declared.header.MessageHeader.{MessageHeader}
use Rattle.pcef_gx.specs.Codes.{has_code, origin_host, origin_realm, result_code, session_id}
use Rattle.pcef_gx.specs.Writing.{avp_of, number_avp}
use Rattle.pcef_gx.specs.declared.code.Code.{Code}
use Rattle.pcef_gx_messages.specs.Identities.{most_octets}
use Rattle.pcef_gx_messages.specs.Proxies.{proxies}
use Rattle.pcef_gx_messages.specs.Sent.{answer_header}
use Rattle.pcef_gx_peer.specs.Kinds.{error_number}
use Rattle.pcef_gx_peer.specs.declared.kind.ProtocolError.{ProtocolError}

-- how a node names itself: Origin-Host, Origin-Realm (clauses 6.3 and 6.4)
pub record Origin : Type 0 where
  pub host : List ℕ
  pub realm : List ℕ

abbrev pub IsShort : Origin → Type 0
IsShort o = (length o.host ≤ most_octets) × (length o.realm ≤ most_octets)

abbrev pub origin_avps : Origin → List Shown
origin_avps o = avp_of origin_host o.host ∷ avp_of origin_realm o.realm ∷ []

-- a header and AVPs behind it; its length is that of all
abbrev pub message_octets : (ℕ → MessageHeader) → List Shown → List ℕ
message_octets header avps = header_octets (header (20 + length (avps_octets avps))) ++ avps_octets avps

abbrev pub told_avps : Origin → ℕ → List Shown
told_avps o number = number_avp result_code number ∷ origin_avps o

-- ---- DWA and DPA: DIAMETER_SUCCESS (clause 7.1.2), with the identifiers of the request (clause 6.2)
abbrev pub success_octets : Origin → MessageHeader → List ℕ
success_octets o request = message_octets (answer_header request false) (told_avps o 2001)

-- ---- errors
abbrev pub where_found : Option Shown → List Shown
where_found (Some a) = a ∷ []
where_found None = []

-- Its Session-Id stands in front, where the request has one; its Proxy-Infos go back, in their order.
abbrev pub error_avps : Origin → ProtocolError → List Shown → List Shown
error_avps o error asked =
    where_found (find (has_code session_id) asked)
    ++ (told_avps o (error_number error) ++ proxies asked)

abbrev pub error_octets : Origin → MessageHeader → ProtocolError → List Shown → List ℕ
error_octets o request error asked = message_octets (answer_header request true) (error_avps o error asked)

-- A message refuses a request with these octets behind its header. They are read up to the first AVP at fault: the
-- error that is told is that of the header.
pub record Refuses (o : Origin) (request : MessageHeader) (e : ProtocolError) (octets message : List ℕ) : Type 0 where
  pub asked : List Shown
  pub rest : List ℕ
  pub fault : Option AvpFault
  pub reads : Reads octets asked rest fault
  pub told : message ≡ error_octets o request e asked
