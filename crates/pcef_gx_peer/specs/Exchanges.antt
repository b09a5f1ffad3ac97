-- The capabilities exchange (RFC 6733, clause 5.3).
use Rattle.std.specs.Prelude.{ℕ, ◌==◌, ◌++◌, true, false, List, [], ◌∷◌, Option, Some, None, Result, Ok, Err, codes, option_and_then, if◌then◌else◌}
use Rattle.std.specs.Int.{w32, w128, to_be_bytes}
use Rattle.pcef_base.specs.Readings.{◌>>=◌}
use Rattle.pcef_packet.specs.declared.header.Addr.{Addr}
use Rattle.pcef_packet.specs.declared.header.Addr.TheVariants.{V4, V6}
use Rattle.pcef_diameter.specs.Avps.{Shown}
use Rattle.pcef_diameter.specs.Numbers.{unsigned32_of}
use Rattle.pcef_diameter.specs.declared.header.MessageHeader.{MessageHeader}
use Rattle.pcef_gx.specs.Codes.{auth_application_id, ietf, result_code, vendor_id}
use Rattle.pcef_gx.specs.Readings.{Fault, group_of, only_of}
use Rattle.pcef_gx.specs.Writing.{avp_of, group_avp, number_avp}
use Rattle.pcef_gx.specs.declared.code.Code.{Code}
use Rattle.pcef_gx_peer.specs.Nodes.{Origin, message_octets, origin_avps}
use Rattle.pcef_gx_peer.specs.declared.exchange.Exchange.{Exchange}
use Rattle.pcef_gx_peer.specs.declared.exchange.Exchange.TheVariants.{Agreed, Refused}
use Rattle.pcef_gx_peer.specs.declared.exchange.Identifiers.{Identifiers}

-- ---- the CER
abbrev pub host_ip_address : Code
host_ip_address = ietf 257

abbrev pub vendor_specific_application_id : Code
vendor_specific_application_id = ietf 260

abbrev pub supported_vendor_id : Code
supported_vendor_id = ietf 265

-- an address with its family in front, 1 for IPv4 and 2 for IPv6 (clause 4.3.1, Address)
abbrev pub address_octets : Addr → List ℕ
address_octets (V4 bits) = 0 ∷ 1 ∷ to_be_bytes w32 bits
address_octets (V6 bits) = 0 ∷ 2 ∷ to_be_bytes w128 bits

-- Product-Name (clause 5.3.7), which has no M bit (clause 4.5)
abbrev pub product_name_avp : Shown
product_name_avp = record { code = 269; vendor = None; mandatory = false; protected = false; octets = codes "Cipallta" }

-- Gx is an application of 3GPP (TS 29.212, clause 5.1; RFC 6733, clause 6.11).
abbrev pub gx_avp : Shown
gx_avp =
    group_avp vendor_specific_application_id (number_avp vendor_id 10415 ∷ number_avp auth_application_id 16777238 ∷ [])

-- The Vendor-Id 0 says that there is no number of our own (own choice; clause 5.3.3).
abbrev pub capability_avps : Addr → List Shown
capability_avps address =
    avp_of host_ip_address (address_octets address) ∷ number_avp vendor_id 0 ∷ product_name_avp
    ∷ number_avp supported_vendor_id 10415 ∷ gx_avp ∷ []

-- a Capabilities-Exchange-Request, 257, of the base protocol, 0 (clause 5.3.1)
abbrev pub capabilities_header : Identifiers → ℕ → MessageHeader
capabilities_header i len = record {
  version = 1;
  len = len;
  request = true;
  proxiable = false;
  error = false;
  retransmitted = false;
  command = 257;
  application = 0;
  hop_by_hop = i.hop_by_hop;
  end_to_end = i.end_to_end;
}

abbrev pub capabilities_octets : Origin → Addr → Identifiers → List ℕ
capabilities_octets o address i = message_octets (capabilities_header i) (origin_avps o ++ capability_avps address)

-- ---- the CEA (clause 5.3.2)
-- the number of its one Result-Code, where that is a number
unfoldable pub result_code_in : List ℕ → Result (Option ℕ) Fault
result_code_in octets = do
  avps ← group_of octets
  found ← only_of result_code avps
  Ok (option_and_then (λ (a : Shown). unsigned32_of a.octets) found)

-- With DIAMETER_SUCCESS the peers agree (RFC 6733, clause 7.1.2). An answer at fault refuses (own choice).
abbrev pub exchange_by : Result (Option ℕ) Fault → Exchange
exchange_by (Ok (Some number)) = if number == 2001 then Agreed else Refused (Some number)
exchange_by (Ok None) = Refused None
exchange_by (Err fault) = Refused None
