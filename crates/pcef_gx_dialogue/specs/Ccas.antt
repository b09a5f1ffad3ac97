-- What an answer of the PCRF says to the CCR that is out (TS 29.212, clause 5.6.3; RFC 6733, clause 7.1). One at fault is
-- dropped, for nothing answers an answer.
use Rattle.std.specs.Prelude.{ℕ, ◌≡◌, ◌==◌, ◌&&◌, ◌||◌, not, Bool, true, false, nat_lt, is_none, is_some, List, drop, length, Option, Some, None, option_map, unwrap_or, Result, Ok, Err, if◌then◌else◌}
use Rattle.std.specs.Option.{option_and_then}
use Rattle.pcef_diameter.specs.Avps.{Shown, shown}
use Rattle.pcef_diameter.specs.Headers.{header_fault}
use Rattle.pcef_diameter.specs.Numbers.{unsigned32_of}
use Rattle.pcef_diameter.specs.declared.header.MessageHeader.{MessageHeader}
use Rattle.pcef_gx.specs.Codes.{cc_request_number, cc_request_type, result_code, session_id}
use Rattle.pcef_gx.specs.Messages.{Asked, asked, message_of, of_cca}
use Rattle.pcef_gx.specs.Readings.{Fault, group_of, only_of, required_of}
use Rattle.pcef_gx.specs.declared.code.Code.{Code}
use Rattle.pcef_gx.specs.declared.fault.Stop.{Stop}
use Rattle.pcef_gx.specs.declared.fault.Stop.TheVariants as stop
use Rattle.pcef_gx_messages.specs.Identities.{Speaker}
use Rattle.pcef_line.specs.FilterReads.{FilterReading, IsExact}
use Rattle.pcef_base.specs.Readings.{◌>>=◌, or_fault, under}
use Rattle.pcef_gx_dialogue.specs.Ccrs.{Out, is_answer}
use Rattle.pcef_gx_dialogue.specs.Requests.{gx, most_message, of_session}
use Rattle.pcef_gx_dialogue.specs.declared.cca.CcaDrop.{CcaDrop}
use Rattle.pcef_gx_dialogue.specs.declared.cca.CcaDrop.TheVariants as cca_drop
use Rattle.pcef_gx_dialogue.specs.declared.cca.Says.{Says}
use Rattle.pcef_gx_dialogue.specs.declared.cca.Says.TheVariants as says

-- what it says: what the PCRF asks for, or that the CCR failed, with the Result-Code where it has one
pub data Saying : Type 0 where
  granted : Asked → Saying
  failed : Option ℕ → Saying

-- why it is dropped: it is no answer to the CCR that is out, or it is at fault
pub data Dropped : Type 0 where
  not_ours : Dropped
  at_fault : Fault → Dropped

abbrev pub saying_of : Says → Saying
saying_of (says.Granted orders) = granted (asked orders)
saying_of (says.Failed code) = failed code

-- what is returned is what is due; when out of memory, it says nothing
abbrev pub DropsAs : {Y : Type 0} → CcaDrop → Result Y Dropped → Type 0
DropsAs cca_drop.NotOurs due = due ≡ Err not_ours
DropsAs (cca_drop.Fault f) due = due ≡ Err (at_fault (f.problem, shown f.failed))
DropsAs cca_drop.NoMemory due = Unit {0}

abbrev pub Hears : {X Y : Type 0} → (X → Y) → Result X CcaDrop → Result Y Dropped → Type 0
Hears view (Ok x) due = due ≡ Ok (view x)
Hears view (Err e) due = DropsAs e due

abbrev pub IsDrop : CcaDrop → Fault → Type 0
IsDrop cca_drop.NotOurs fault = ⊥
IsDrop (cca_drop.Fault f) fault = (f.problem, shown f.failed) ≡ fault
IsDrop cca_drop.NoMemory fault = ⊥

abbrev pub IsWant : CcaDrop → Type 0
IsWant cca_drop.NoMemory = Unit {0}
IsWant _ = ⊥

abbrev pub DropsStop : Stop → CcaDrop → Type 0
DropsStop (stop.Fault f) result = IsDrop result (f.problem, shown f.failed)
DropsStop stop.NoMemory result = IsWant result

-- ---- the header: an answer to a Credit-Control-Request, 272, of Gx
abbrev pub is_cca : MessageHeader → ℕ → Bool
is_cca h count =
    not (is_some (header_fault h count) || (nat_lt most_message count || (h.request || (not (h.command == 272) || not (h.application == gx)))))

abbrev pub holding : Bool → Result Bool Dropped
holding true = Ok true
holding false = Err not_ours

-- ---- the AVPs
abbrev pub number_in : Code → List Shown → Result ℕ Dropped
number_in code avps = under at_fault (required_of code avps) >>= λ a. or_fault not_ours (unsigned32_of a.octets)

-- it is an answer to the CCR that is out, of this session
unfoldable pub answers_out : Speaker → Option Out → List Shown → Result Bool Dropped
answers_out s out avps = do
  session ← under at_fault (required_of session_id avps)
  _ ← holding (of_session s session)
  kind ← number_in cc_request_type avps
  number ← number_in cc_request_number avps
  holding (is_answer out kind number)

-- the Result-Code, where there is one
abbrev pub code_of : Option Shown → Option ℕ
code_of found = option_and_then (λ a. unsigned32_of a.octets) found

abbrev pub code_due : List Shown → Result (Option ℕ) Dropped
code_due avps = under at_fault (only_of result_code avps) >>= λ found. Ok (code_of found)

abbrev pub is_success : Option ℕ → Bool
is_success code = unwrap_or (option_map (λ n. n == 2001) code) false

abbrev pub said : FilterReading → Option ℕ → List Shown → Result Saying Dropped
said reads code avps =
    if is_success code then under at_fault (message_of of_cca reads avps) >>= (λ asked. Ok (granted asked)) else Ok (failed code)

unfoldable pub heard_avps : Speaker → Option Out → MessageHeader → List ℕ → Result (List Shown) Dropped
heard_avps s out h message = do
  _ ← holding (is_cca h (length message))
  avps ← under at_fault (group_of (drop 20 message))
  _ ← answers_out s out avps
  Ok avps

unfoldable pub heard_due : Speaker → Option Out → MessageHeader → List ℕ → Result (List Shown × Option ℕ) Dropped
heard_due s out h message = do
  avps ← heard_avps s out h message
  code ← code_due avps
  Ok (avps, code)

abbrev pub cca_due : FilterReading → Speaker → Option Out → MessageHeader → List ℕ → Result Saying Dropped
cca_due reads s out h message = heard_due s out h message >>= λ heard. said reads heard.1 heard.0

-- with each Flow-Description read as its grammar says
abbrev pub SaysSo : Option ℕ → List Shown → Result Saying Dropped → Type 0
SaysSo code avps due = (reads : FilterReading) × IsExact reads × (due ≡ said reads code avps)

abbrev pub AvpsDue : Speaker → Option Out → MessageHeader → List ℕ → Result Saying Dropped → Type 0
AvpsDue s out h message due = (reads : FilterReading) × IsExact reads × (due ≡ cca_due reads s out h message)

-- ---- a failure: a node on the way refuses a CCR by an answer that has its identifiers, and may have neither its
-- CC-Request-Type nor its CC-Request-Number (RFC 6733, clauses 6.2 and 7.2)
abbrev pub has_identifiers : Option Out → MessageHeader → Bool
has_identifiers None h = false
has_identifiers (Some o) h = (o.hop_by_hop == h.hop_by_hop) && (o.end_to_end == h.end_to_end)

unfoldable pub code_told : List ℕ → Result (Option ℕ) Dropped
code_told message = under at_fault (group_of (drop 20 message)) >>= code_due

-- Where its Result-Code can't be read, the E bit tells a failure.
abbrev pub failure_by : Bool → Result (Option ℕ) Dropped → Option (Option ℕ)
failure_by error (Ok code) = if is_success code then None else Some code
failure_by error (Err dropped) = if error then Some None else None

abbrev pub failure_of : Option Out → MessageHeader → List ℕ → Option (Option ℕ)
failure_of out h message =
    if is_cca h (length message) && has_identifiers out h then failure_by h.error (code_told message) else None

-- what is due: the failure of the CCR that is out, else what the answer's AVPs say
abbrev pub SaidBy : Option (Option ℕ) → Speaker → Option Out → MessageHeader → List ℕ → Result Saying Dropped → Type 0
SaidBy (Some code) s out h message due = due ≡ Ok (failed code)
SaidBy None s out h message due = AvpsDue s out h message due

abbrev pub CcaDue : Speaker → Option Out → MessageHeader → List ℕ → Result Saying Dropped → Type 0
CcaDue s out h message due = SaidBy (failure_of out h message) s out h message due
