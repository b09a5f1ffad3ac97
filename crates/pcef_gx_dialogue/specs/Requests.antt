-- What a request of the PCRF asks for, or why it is refused as a whole: the first reason is told (RFC 6733, clause 7.1).
use Rattle.std.specs.Prelude.{ℕ, ◌≡◌, ◌==◌, not, Bool, true, false, nat_lt, List, drop, length, Option, Some, None, option_map, unwrap_or, Result, Ok, Err, if◌then◌else◌}
use Rattle.std.specs.Str.{bytes_eq}
use Rattle.pcef_diameter.specs.Avps.{Shown, shown}
use Rattle.pcef_diameter.specs.Headers.{header_fault}
use Rattle.pcef_diameter.specs.Numbers.{unsigned32_of}
use Rattle.pcef_diameter.specs.declared.fault.MessageFault.{MessageFault}
use Rattle.pcef_diameter.specs.declared.fault.MessageFault.TheVariants as message_fault
use Rattle.pcef_diameter.specs.declared.header.MessageHeader.{MessageHeader}
use Rattle.pcef_gx.specs.Codes.{auth_application_id, session_id}
use Rattle.pcef_gx.specs.Messages.{Asked, message_of, of_rar}
use Rattle.pcef_gx.specs.Readings.{Fault, group_of, only_of, required_of}
use Rattle.pcef_gx.specs.declared.code.Code.{Code}
use Rattle.pcef_gx.specs.declared.fault.Stop.{Stop}
use Rattle.pcef_gx.specs.declared.fault.Stop.TheVariants as stop
use Rattle.pcef_gx_messages.specs.Identities.{Speaker}
use Rattle.pcef_gx_messages.specs.Sent.{Told, application_unsupported, at_fault, command_unsupported, header_bits, length_wrong, told_of, unknown_session, version}
use Rattle.pcef_line.specs.FilterReads.{FilterReading, IsExact}
use Rattle.pcef_base.specs.Readings.{◌>>=◌, under}
use Rattle.pcef_gx_dialogue.specs.declared.halt.Halt.{Halt}
use Rattle.pcef_gx_dialogue.specs.declared.halt.Halt.TheVariants as halt

-- what is returned, seen by `view`, is what is due; when out of memory, it says nothing
abbrev pub TellsHalt : {Y : Type 0} → Halt → Result Y Told → Type 0
TellsHalt (halt.Refused told) due = due ≡ Err (told_of told)
TellsHalt halt.NoMemory due = Unit {0}

abbrev pub Tells : {X Y : Type 0} → (X → Y) → Result X Halt → Result Y Told → Type 0
Tells view (Ok x) due = due ≡ Ok (view x)
Tells view (Err e) due = TellsHalt e due

-- a fault of an AVP refuses a request
abbrev pub IsRefusal : Halt → Fault → Type 0
IsRefusal (halt.Refused told) fault = told_of told ≡ at_fault fault.0 fault.1
IsRefusal halt.NoMemory fault = ⊥

abbrev pub IsLack : Halt → Type 0
IsLack (halt.Refused told) = ⊥
IsLack halt.NoMemory = Unit {0}

abbrev pub TellsStop : Stop → Halt → Type 0
TellsStop (stop.Fault f) result = IsRefusal result (f.problem, shown f.failed)
TellsStop stop.NoMemory result = IsLack result

-- ---- the header
abbrev pub gx : ℕ
gx = 16777238

abbrev pub re_auth : ℕ
re_auth = 258

-- how many octets a message has at most (own choice)
abbrev pub most_message : ℕ
most_message = 65536

-- of a message with so many octets
abbrev pub told_by : Option MessageFault → ℕ → Option Told
told_by (Some message_fault.Version) count = Some version
told_by (Some message_fault.Length) count = Some length_wrong
told_by (Some message_fault.Bits) count = Some header_bits
told_by None count = if nat_lt most_message count then Some length_wrong else None

abbrev pub header_told : MessageHeader → ℕ → Option Told
header_told h count = told_by (header_fault h count) count

abbrev pub command_told : MessageHeader → Option Told
command_told h =
    if not (h.application == gx) then Some application_unsupported
    else if not (h.command == re_auth) then Some command_unsupported
    else None

abbrev pub or_told : Option Told → Option Told → Option Told
or_told (Some told) other = Some told
or_told None other = other

abbrev pub refused_first : MessageHeader → ℕ → Option Told
refused_first h count = or_told (header_told h count) (command_told h)

-- ---- the AVPs
abbrev pub told_fault : Fault → Told
told_fault fault = at_fault fault.0 fault.1

-- the AVPs behind the header
unfoldable pub avps_in : List ℕ → Result (List Shown) Told
avps_in message = under told_fault (group_of (drop 20 message))

-- the data of its one AVP of a code; none where its AVPs can't be read
abbrev pub data_of : Result (Option Shown) Told → Option (List ℕ)
data_of (Ok (Some a)) = Some a.octets
data_of _ = None

unfoldable pub data_in : Code → List ℕ → Option (List ℕ)
data_in code message = data_of (avps_in message >>= λ avps. under told_fault (only_of code avps))

-- the session is this one (RFC 6733, clause 8.8)
abbrev pub of_session : Speaker → Shown → Bool
of_session s a = bytes_eq a.octets s.session_id

-- the application is Gx
abbrev pub of_gx : Shown → Bool
of_gx a = unwrap_or (option_map (λ n. n == gx) (unsigned32_of a.octets)) false

abbrev pub holding : Bool → Told → Result Bool Told
holding true told = Ok true
holding false told = Err told

-- a request is for this session and for Gx
unfoldable pub addressed_to : Speaker → List Shown → Result Bool Told
addressed_to s avps = do
  session ← under told_fault (required_of session_id avps)
  _ ← holding (of_session s session) unknown_session
  application ← under told_fault (required_of auth_application_id avps)
  holding (of_gx application) application_unsupported

abbrev pub unless_told : {Y : Type 0} → Option Told → Result Y Told → Result Y Told
unless_told (Some told) due = Err told
unless_told None due = due

unfoldable pub addressed_avps : Speaker → MessageHeader → List ℕ → Result (List Shown) Told
addressed_avps s h message =
    unless_told (refused_first h (length message))
    (avps_in message >>= λ avps. addressed_to s avps >>= λ _. Ok avps)

-- ---- what is due
abbrev pub request_due : FilterReading → Speaker → MessageHeader → List ℕ → Result Asked Told
request_due reads s h message = addressed_avps s h message >>= λ avps. under told_fault (message_of of_rar reads avps)

-- with each Flow-Description read as its grammar says
abbrev pub RequestDue : Speaker → MessageHeader → List ℕ → Result Asked Told → Type 0
RequestDue s h message due = (reads : FilterReading) × IsExact reads × (due ≡ request_due reads s h message)
