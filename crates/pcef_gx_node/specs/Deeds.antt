-- What is done with a message (RFC 6733, clause 5.6; TS 29.212, clauses 4.5.1 and 4.5.2).
use Rattle.std.specs.Prelude.{Bool, true, false}
use Rattle.pcef_gx_node.specs.declared.deed.Deed.{Deed}
use Rattle.pcef_gx_node.specs.declared.deed.Deed.TheVariants as deed
use Rattle.pcef_gx_node.specs.declared.deed.Phase.{Phase}
use Rattle.pcef_gx_node.specs.declared.deed.Phase.TheVariants as phase
use Rattle.pcef_gx_peer.specs.declared.kind.MessageKind.{MessageKind}
use Rattle.pcef_gx_peer.specs.declared.kind.MessageKind.TheVariants as kind

-- Before the CEA nothing else is in order: the state Wait-I-CEA ends by any other message.
abbrev pub deed_while_exchanging : MessageKind → Deed
deed_while_exchanging kind.CapabilitiesAnswer = deed.ReadCapabilities
deed_while_exchanging other = deed.Close

-- A RAR and a CCA are a session's. DWR and DPR are answered, and an answer that nothing asked for is dropped (RFC 6733,
-- clauses 5.5.2, 5.4.2 and 6.2.1); so is a second CEA (own choice).
abbrev pub deed_while_speaking : MessageKind → Deed
deed_while_speaking kind.WatchdogRequest = deed.AnswerWatchdog
deed_while_speaking kind.DisconnectRequest = deed.AnswerDisconnect
deed_while_speaking (kind.Refused error) = deed.Refuse error
deed_while_speaking kind.ReAuthRequest = deed.Hear
deed_while_speaking kind.CreditControlAnswer = deed.Hear
deed_while_speaking kind.CapabilitiesAnswer = deed.Drop
deed_while_speaking kind.WatchdogAnswer = deed.Drop
deed_while_speaking kind.UnknownAnswer = deed.Drop

-- A DPA ends the connection that a DPR is to end: the state Closing.
abbrev pub deed_while_leaving : Bool → MessageKind → Deed
deed_while_leaving true k = deed.Leave
deed_while_leaving false k = deed_while_speaking k

abbrev pub deed_of : Phase → MessageKind → Bool → Deed
deed_of phase.Exchanging k farewell = deed_while_exchanging k
deed_of phase.Speaking k farewell = deed_while_speaking k
deed_of phase.Leaving k farewell = deed_while_leaving farewell k
