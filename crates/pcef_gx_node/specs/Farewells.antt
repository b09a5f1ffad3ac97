-- How a node takes leave (RFC 6733, clause 5.4).
use Rattle.std.specs.Prelude.{ℕ, ◌++◌, ◌==◌, ◌&&◌, not, Bool, true, false, List, [], ◌∷◌}
use Rattle.pcef_diameter.specs.Avps.{Shown}
use Rattle.pcef_diameter.specs.declared.header.MessageHeader.{MessageHeader}
use Rattle.pcef_gx.specs.Codes.{ietf}
use Rattle.pcef_gx.specs.Writing.{number_avp}
use Rattle.pcef_gx_peer.specs.Nodes.{Origin, message_octets, origin_avps}
use Rattle.pcef_gx_peer.specs.declared.exchange.Identifiers.{Identifiers}

-- Disconnect-Cause (clause 5.4.3): DO_NOT_WANT_TO_TALK_TO_YOU, 2, for there is nothing more to say
abbrev pub farewell_avps : Origin → List Shown
farewell_avps o = origin_avps o ++ (number_avp (ietf 273) 2 ∷ [])

-- a Disconnect-Peer-Request, 282, of the base protocol, 0 (clause 5.4.1)
abbrev pub disconnect_header : Identifiers → ℕ → MessageHeader
disconnect_header i len = record {
  version = 1;
  len = len;
  request = true;
  proxiable = false;
  error = false;
  retransmitted = false;
  command = 282;
  application = 0;
  hop_by_hop = i.hop_by_hop;
  end_to_end = i.end_to_end;
}

abbrev pub disconnect_octets : Origin → Identifiers → List ℕ
disconnect_octets o i = message_octets (disconnect_header i) (farewell_avps o)

-- a Disconnect-Peer-Answer (clause 5.4.2)
abbrev pub is_disconnect_answer : MessageHeader → Bool
is_disconnect_answer h = not h.request && ((h.application == 0) && (h.command == 282))
