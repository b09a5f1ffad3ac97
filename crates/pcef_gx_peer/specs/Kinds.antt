-- What kind of message came to a PCEF from its PCRF.
use Rattle.std.specs.Prelude.{ℕ, ◌==◌, if◌then◌else◌}
use Rattle.pcef_diameter.specs.declared.header.MessageHeader.{MessageHeader}
use Rattle.pcef_gx_peer.specs.declared.kind.MessageKind.{MessageKind}
use Rattle.pcef_gx_peer.specs.declared.kind.MessageKind.TheVariants as kind
use Rattle.pcef_gx_peer.specs.declared.kind.ProtocolError.{ProtocolError}
use Rattle.pcef_gx_peer.specs.declared.kind.ProtocolError.TheVariants as error

-- Result-Code (RFC 6733, clause 7.1.3)
abbrev pub error_number : ProtocolError → ℕ
error_number error.CommandUnsupported = 3001
error_number error.ApplicationUnsupported = 3007
error_number error.InvalidHeaderBits = 3008

-- a request of the base protocol (RFC 6733, clauses 3.1, 5.4 and 5.5): DWR and DPR are known
abbrev pub base_request : ℕ → MessageKind
base_request command =
    if command == 280 then kind.WatchdogRequest
    else if command == 282 then kind.DisconnectRequest
    else kind.Refused error.CommandUnsupported

-- a request of Gx (TS 29.212, clause 5.6.4): RAR is known
abbrev pub gx_request : ℕ → MessageKind
gx_request command = if command == 258 then kind.ReAuthRequest else kind.Refused error.CommandUnsupported

abbrev pub request_kind : ℕ → ℕ → MessageKind
request_kind application command =
    if application == 0 then base_request command
    else if application == 16777238 then gx_request command
    else kind.Refused error.ApplicationUnsupported

-- The answers to what a PCEF asks: CEA and DWA of the base protocol, CCA of Gx. Another is dropped (RFC 6733, clause
-- 6.2.1).
abbrev pub base_answer : ℕ → MessageKind
base_answer command =
    if command == 257 then kind.CapabilitiesAnswer
    else if command == 280 then kind.WatchdogAnswer
    else kind.UnknownAnswer

abbrev pub answer_kind : ℕ → ℕ → MessageKind
answer_kind application command =
    if application == 0 then base_answer command
    else if application == 16777238 then (if command == 272 then kind.CreditControlAnswer else kind.UnknownAnswer)
    else kind.UnknownAnswer

-- A request with the E bit is refused whatever it asks (RFC 6733, clauses 3 and 7.1.3).
unfoldable pub kind_of : MessageHeader → MessageKind
kind_of h =
    if h.request then (if h.error then kind.Refused error.InvalidHeaderBits else request_kind h.application h.command)
    else answer_kind h.application h.command
