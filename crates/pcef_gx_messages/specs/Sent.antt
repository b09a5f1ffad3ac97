-- The messages of Gx that a PCEF sends (TS 29.212, clauses 5.6.2 and 5.6.5).
use Rattle.std.specs.Prelude.{ℕ, ◌≤◌, ◌+◌, ◌++◌, Bool, true, false, List, [], ◌∷◌, length, map}
use Rattle.pcef_diameter.specs.Avps.{Shown, shown}
use Rattle.pcef_diameter.specs.Headers.{header_octets}
use Rattle.pcef_diameter.specs.Spellings.{avp_len, avps_octets}
use Rattle.pcef_diameter.specs.declared.header.MessageHeader.{MessageHeader}
use Rattle.pcef_gx.specs.Codes.{auth_application_id, cc_request_number, cc_request_type, destination_realm, experimental_result, experimental_result_code, failed_avp, origin_host, origin_realm, result_code, session_id, vendor_id}
use Rattle.pcef_gx.specs.Failures as failures
use Rattle.pcef_gx.specs.Writing.{avp_of, group_avp, number_avp, report_avp}
use Rattle.pcef_gx.specs.declared.fault.Problem.{Problem}
use Rattle.pcef_gx.specs.declared.writing.RuleReport.{RuleReport}
use Rattle.pcef_gx.specs.declared.fault.Problem.TheVariants as problem
use Rattle.pcef_gx_messages.specs.Identities.{Speaker}
use Rattle.pcef_gx_messages.specs.declared.answering.Outcome.{Outcome}
use Rattle.pcef_gx_messages.specs.declared.answering.Outcome.TheVariants as outcome
use Rattle.pcef_gx_messages.specs.declared.requesting.RequestKind.{RequestKind}
use Rattle.pcef_gx_messages.specs.declared.requesting.RequestKind.TheVariants as kind
use Rattle.pcef_gx_messages.specs.declared.requesting.RequestMark.{RequestMark}

-- what an answer tells, wherever its AVPs lie in memory
pub data Told : Type 0 where
  success : Told
  rules_failed : Told
  header_bits : Told
  version : Told
  length_wrong : Told
  command_unsupported : Told
  application_unsupported : Told
  unknown_session : Told
  at_fault : Problem → Shown → Told

abbrev pub told_of : Outcome → Told
told_of outcome.Success = success
told_of outcome.RulesFailed = rules_failed
told_of outcome.HeaderBits = header_bits
told_of outcome.Version = version
told_of outcome.Length = length_wrong
told_of outcome.CommandUnsupported = command_unsupported
told_of outcome.ApplicationUnsupported = application_unsupported
told_of outcome.UnknownSession = unknown_session
told_of (outcome.Fault f) = at_fault f.problem (shown f.failed)

-- An AVP that is shown as the one at fault is one of a message that was read, which has at most 65,536 octets.
abbrev pub IsShortFault : Told → Type 0
IsShortFault (at_fault problem a) = avp_len a ≤ 65548
IsShortFault _ = Unit {0}

-- So is the name of a rule that is reported.
abbrev pub IsShortReport : RuleReport → Type 0
IsShortReport r = length r.name.now ≤ 65536

-- how many octets an answer has at most beside its own (own choice), and how many a Failed-AVP takes at most
abbrev pub most_room : ℕ
most_room = 8388608

abbrev pub failed_room : Told → ℕ
failed_room (at_fault problem a) = avp_len a + 18
failed_room _ = 0

-- a header, AVPs, and the octets of others behind them; the length is that of all
abbrev pub message_octets : (ℕ → MessageHeader) → List Shown → List ℕ → List ℕ
message_octets header avps others =
    header_octets (header (20 + length (avps_octets avps ++ others))) ++ (avps_octets avps ++ others)

-- ---- answers
abbrev pub is_bits : Problem → Bool
is_bits problem.InvalidAvpBits = true
is_bits _ = false

-- A protocol error is answered with the E bit (RFC 6733, clause 7.1.3).
abbrev pub is_protocol_error : Told → Bool
is_protocol_error header_bits = true
is_protocol_error command_unsupported = true
is_protocol_error application_unsupported = true
is_protocol_error (at_fault problem a) = is_bits problem
is_protocol_error _ = false

-- An answer has the command, the application and both identifiers of its request (RFC 6733, clause 3), and its P bit.
abbrev pub answer_header : MessageHeader → Bool → ℕ → MessageHeader
answer_header request is_error len = record {
  version = 1;
  len = len;
  request = false;
  proxiable = request.proxiable;
  error = is_error;
  retransmitted = false;
  command = request.command;
  application = request.application;
  hop_by_hop = request.hop_by_hop;
  end_to_end = request.end_to_end;
}

-- Result-Code (RFC 6733, clause 7.1); with rules that couldn't be had an Experimental-Result of 3GPP, DIAMETER_PCC_RULE_EVENT
-- (TS 29.212, clause 5.5.3)
abbrev pub result_avp : Told → Shown
result_avp success = number_avp result_code 2001
result_avp command_unsupported = number_avp result_code 3001
result_avp application_unsupported = number_avp result_code 3007
result_avp header_bits = number_avp result_code 3008
result_avp unknown_session = number_avp result_code 5002
result_avp version = number_avp result_code 5011
result_avp length_wrong = number_avp result_code 5015
result_avp (at_fault problem a) = number_avp result_code (failures.result_code problem)
result_avp rules_failed =
    group_avp experimental_result (number_avp vendor_id 10415 ∷ number_avp experimental_result_code 5142 ∷ [])

-- Failed-AVP (RFC 6733, clause 7.5)
abbrev pub failed_avps : Told → List Shown
failed_avps (at_fault problem a) = group_avp failed_avp (a ∷ []) ∷ []
failed_avps _ = []

abbrev pub answer_avps : Speaker → Told → List Shown
answer_avps s told =
    avp_of session_id s.session_id ∷ result_avp told ∷ avp_of origin_host s.origin_host
    ∷ avp_of origin_realm s.origin_realm ∷ failed_avps told

-- an answer: its AVPs in octets, and the message that they make with a header
pub record Answered : Type 0 where
  pub is_error : Bool
  pub avps : List ℕ
  pub message : List ℕ

abbrev pub answer_with : MessageHeader → Bool → List ℕ → Answered
answer_with request is_error avps = record {
  is_error = is_error;
  avps = avps;
  message = header_octets (answer_header request is_error (20 + length avps)) ++ avps;
}

-- the answer to a request: its own AVPs, the Charging-Rule-Reports of rules that couldn't be had, and what goes back of
-- the request, as octets
abbrev pub answered : Speaker → MessageHeader → Told → List RuleReport → List ℕ → Answered
answered s request told reports back =
    answer_with request (is_protocol_error told)
    (avps_octets (answer_avps s told) ++ (avps_octets (map report_avp reports) ++ back))

-- the same answer to the request that came again, whose identifiers may be others
abbrev pub answered_again : MessageHeader → Answered → Answered
answered_again request before = answer_with request before.is_error before.avps

-- how many octets the AVPs of an answer have at most
abbrev pub most_answer : ℕ
most_answer = 8400000

-- ---- requests
-- CC-Request-Type (RFC 8506, clause 8.3)
abbrev pub kind_number : RequestKind → ℕ
kind_number kind.Initial = 1
kind_number kind.Update = 2
kind_number kind.Termination = 3

-- a Credit-Control-Request, 272, of Gx, 16777238
abbrev pub request_header : RequestMark → ℕ → MessageHeader
request_header mark len = record {
  version = 1;
  len = len;
  request = true;
  proxiable = true;
  error = false;
  retransmitted = mark.retransmitted;
  command = 272;
  application = 16777238;
  hop_by_hop = mark.hop_by_hop;
  end_to_end = mark.end_to_end;
}

abbrev pub speaker_avps : Speaker → List Shown
speaker_avps s =
    avp_of session_id s.session_id ∷ number_avp auth_application_id 16777238 ∷ avp_of origin_host s.origin_host
    ∷ avp_of origin_realm s.origin_realm ∷ avp_of destination_realm s.destination_realm ∷ []

abbrev pub kind_avps : RequestKind → ℕ → List Shown
kind_avps of number = number_avp cc_request_type (kind_number of) ∷ number_avp cc_request_number number ∷ []

abbrev pub request_avps : Speaker → RequestKind → ℕ → List Shown
request_avps s of number = speaker_avps s ++ kind_avps of number

abbrev pub request_octets : Speaker → RequestMark → RequestKind → ℕ → List ℕ → List ℕ
request_octets s mark of number others = message_octets (request_header mark) (request_avps s of number) others
