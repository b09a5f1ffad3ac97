-- What is answered to a RAR, and the session after it (TS 29.212, clauses 4.5.2 and 4.5.12).
use Rattle.std.specs.Prelude.{ℕ, ◌≡◌, ◌≤◌, ◌+◌, ◌||◌, Bool, true, false, nat_lt, All, List, [], ◌∷◌, drop, length, sum_by, Option, Some, None, option_map, Result, Ok, Err, if◌then◌else◌}
use Rattle.std.specs.List.{list_any}
use Rattle.pcef_diameter.specs.Avps.{Shown}
use Rattle.pcef_diameter.specs.declared.header.MessageHeader.{MessageHeader}
use Rattle.pcef_gx.specs.Codes.{event_trigger, monitoring_key, session_id, usage_monitoring_report}
use Rattle.pcef_gx.specs.Messages.{Asked}
use Rattle.pcef_gx.specs.Readings.{blank_of}
use Rattle.pcef_gx.specs.declared.fault.Problem.TheVariants.{UnableToComply}
use Rattle.pcef_gx.specs.declared.order.Order.{Order}
use Rattle.pcef_gx.specs.declared.order.Order.TheVariants as order
use Rattle.pcef_gx.specs.declared.writing.RuleReport.{RuleReport}
use Rattle.pcef_gx_messages.specs.Identities.{Speaker, speaking_of}
use Rattle.pcef_gx_messages.specs.Proxies.{GoesBack}
use Rattle.pcef_gx_messages.specs.Sent.{Answered, Told, answered, at_fault, rules_failed, success, unknown_session}
use Rattle.pcef_gx_orders.specs.Carrying.{CarriesOut}
use Rattle.pcef_gx_orders.specs.Naming.{name_given}
use Rattle.pcef_model.specs.Refusals.{was_closed, was_terminated}
use Rattle.pcef_rule.specs.declared.quantity.Qos.{Qos}
use Rattle.pcef_world.specs.Worlds.{World}
use Rattle.pcef_gx_dialogue.specs.Requests.{RequestDue, data_in, most_message}
use Rattle.pcef_gx_dialogue.specs.declared.answering.LeftToHost.{LeftToHost}

-- ---- what the answer tells of orders
-- The AVP that a refused order came from, the innermost alone: its Monitoring-Key, else an example of the one that asked
-- for it (RFC 6733, clause 7.5).
abbrev pub key_avp : List ℕ → Shown
key_avp key = record {
  code = monitoring_key.number;
  vendor = Some 10415;
  mandatory = false;
  protected = false;
  octets = key;
}

abbrev pub avp_refused : Order → Shown
avp_refused (order.Triggers set) = blank_of event_trigger
avp_refused order.ReportAll = blank_of usage_monitoring_report
avp_refused asked = key_avp (name_given asked)

-- A rule that couldn't be had has a report. A refused order that names no rule can't be complied with, and there is no
-- report for it (own choice).
abbrev pub told_of_orders : List RuleReport → Option Order → Told
told_of_orders reports (Some asked) = at_fault UnableToComply (avp_refused asked)
told_of_orders [] None = success
told_of_orders (report ∷ reports) None = rules_failed

-- ---- what goes back of a request: its Proxy-Infos; of a message that is too long nothing is read
abbrev pub GoesBackBy : Bool → List ℕ → List ℕ → Type 0
GoesBackBy true message back = back ≡ []
GoesBackBy false message back = GoesBack (drop 20 message) back

abbrev pub GoesBackOf : List ℕ → List ℕ → Type 0
GoesBackOf message back = GoesBackBy (nat_lt most_message (length message)) message back

-- what an answer needs of its request: who answers, its header, its Session-Id where that can be read, and what goes back
-- of it
pub record Asker : Type 0 where
  pub speaker : Speaker
  pub header : MessageHeader
  pub session : Option (List ℕ)
  pub back : List ℕ

abbrev pub asker_of : Speaker → MessageHeader → List ℕ → List ℕ → Asker
asker_of s h message back = record { speaker = s; header = h; session = data_in session_id message; back = back }

-- ---- the answer
-- A refusal has the Session-Id of its request, whose session may be another one (RFC 6733, clause 6.2).
abbrev pub speaker_for : Option (List ℕ) → Speaker → Speaker
speaker_for None s = s
speaker_for (Some session) s = speaking_of session s

abbrev pub refusal_to : Asker → Told → Answered
refusal_to a told = answered (speaker_for a.session a.speaker) a.header told [] a.back

-- a request is refused as a whole: nothing changes
abbrev pub Refuses : Asker → Told → World → Answered → World → Type 0
Refuses a told before answer after = (answer ≡ refusal_to a told) × (after ≡ before)

-- its orders are done, and the answer has the reports of the rules that couldn't be had
abbrev pub DoesOrders : Asker → List Order → World → Answered → World → Type 0
DoesOrders a orders before answer after =
    (reports : List RuleReport) × (refused : Option Order)
    × CarriesOut before.session.setting before.session.journal orders reports refused after.session.journal
    × (answer ≡ answered a.speaker a.header (told_of_orders reports refused) reports a.back)

-- a session that was closed or terminated is unknown to its PCRF (own choice)
abbrev pub is_ended : World → Bool
is_ended w = was_closed w.session.journal || was_terminated w.session.journal

abbrev pub Obeys : Bool → Asker → List Order → World → Answered → World → Type 0
Obeys true a orders before answer after = Refuses a unknown_session before answer after
Obeys false a orders before answer after = DoesOrders a orders before answer after

abbrev pub AnswersRequest : Asker → Result Asked Told → World → Answered → World → Type 0
AnswersRequest a (Err told) before answer after = Refuses a told before answer after
AnswersRequest a (Ok asked) before answer after = Obeys (is_ended before) a asked.orders before answer after

-- What is left to the host: where the message names event triggers, those that it watches for from then on; the QoS that
-- the default bearer is to have; and why the session is to end. A request that is refused leaves nothing.
pub record Left : Type 0 where
  pub others : Option (List ℕ)
  pub default_qos : Option Qos
  pub release : Option ℕ

abbrev pub nothing_left : Left
nothing_left = record { others = None; default_qos = None; release = None }

abbrev pub left_by : LeftToHost → Left
left_by l = record { others = option_map (λ o. o.items) l.others; default_qos = l.default_qos; release = l.release }

abbrev pub is_triggers : Order → Bool
is_triggers (order.Triggers set) = true
is_triggers _ = false

abbrev pub others_beside : Asked → Option (List ℕ)
others_beside asked = if list_any is_triggers asked.orders then Some asked.others else None

abbrev pub asked_beside : Asked → Left
asked_beside asked = record { others = others_beside asked; default_qos = asked.default_qos; release = asked.release }

abbrev pub left_of : Bool → Asked → Left
left_of true asked = nothing_left
left_of false asked = asked_beside asked

abbrev pub left_due : Bool → Result Asked Told → Left
left_due ended (Err told) = nothing_left
left_due ended (Ok asked) = left_of ended asked

-- a RAR is answered as is due
unfoldable pub AnswersRar : Speaker → MessageHeader → List ℕ → World → Answered → Left → World → Type 0
AnswersRar s h message before answer left after =
    (due : Result Asked Told) × (back : List ℕ) × RequestDue s h message due × GoesBackOf message back
    × AnswersRequest (asker_of s h message back) due before answer after
    × (left ≡ left_due (is_ended before) due)

-- Where there is no session, a request is refused whatever it asks for (own choice).
abbrev pub told_unknown : Result Asked Told → Told
told_unknown (Err told) = told
told_unknown (Ok asked) = unknown_session

abbrev pub RefusesUnknown : Speaker → MessageHeader → List ℕ → Answered → Type 0
RefusesUnknown s h message answer =
    (due : Result Asked Told) × (back : List ℕ) × RequestDue s h message due × GoesBackOf message back
    × (answer ≡ refusal_to (asker_of s h message back) (told_unknown due))

-- ---- memory
abbrev pub order_room : Order → ℕ
order_room asked = length (name_given asked) + 68

-- the reports of these orders are short, and this is room for them all
abbrev pub HaveRoom : List Order → ℕ → Type 0
HaveRoom orders room = All (λ asked. length (name_given asked) ≤ 65536) orders × (sum_by order_room orders ≤ room)
