-- What a message of the PCRF does to the dialogue and to its session (TS 29.212, clauses 4.5.1, 4.5.2 and 4.5.9).
use Rattle.std.specs.Prelude.{ℕ, ◌≡◌, ◌⊎◌, ◌++◌, ◌==◌, Bool, true, false, List, [], ◌∷◌, drop, max, Option, Some, None, is_some, unwrap_or, Result, Ok, Err, if◌then◌else◌}
use Rattle.std.specs.List.{list_any}
use Rattle.pcef_built_in.specs.BuiltIn.{built_in_offers}
use Rattle.pcef_diameter.specs.Headers.{header_of}
use Rattle.pcef_diameter.specs.Spellings.{avps_octets}
use Rattle.pcef_diameter.specs.declared.header.MessageHeader.{MessageHeader}
use Rattle.pcef_gx.specs.Codes.{event_trigger}
use Rattle.pcef_gx.specs.Messages.{Asked}
use Rattle.pcef_gx.specs.Writing.{number_avp}
use Rattle.pcef_gx_dialogue.specs.Ccas.{CcaDue, Dropped, Saying, at_fault, failed, granted, not_ours}
use Rattle.pcef_gx.specs.declared.order.Order.{Order}
use Rattle.pcef_gx_dialogue.specs.Ccrs.{past_of}
use Rattle.pcef_gx_dialogue.specs.Grants.{DoesGrant}
use Rattle.pcef_gx_dialogue.specs.declared.granting.Grant.{Grant}
use Rattle.pcef_gx_dialogue.specs.Rars.{Left, asked_beside, left_by, others_beside}
use Rattle.pcef_gx_dialogue.specs.Repeats.{Answering, AnswersOnce, AnswersUnknown, left_by_done}
use Rattle.pcef_gx_dialogue.specs.Stopping.{with_stops}
use Rattle.pcef_handle.specs.Answering.{StaysOpen}
use Rattle.pcef_handle.specs.Opening.{number_after}
use Rattle.pcef_handle.specs.declared.held.Handle.{Handle}
use Rattle.pcef_handle.specs.declared.held.OpenSession.{OpenSession}
use Rattle.pcef_model.specs.ProfileModel.{ProfileModel, setting_of}
use Rattle.pcef_model.specs.Setting.{Setting, same_qos}
use Rattle.pcef_rule.specs.declared.quantity.Qos.{Qos}
use Rattle.pcef_world.specs.Worlds.{IsOpenedWorld, World}
use Rattle.pcef_gx_handle.specs.Dialogues.{Dialoguing, Place, absent, another, place_of, settled, there, with_qos}
use Rattle.pcef_gx_handle.specs.Opening.{fault_of}
use Rattle.pcef_gx_handle.specs.Proposals.{qos_avp}
use Rattle.pcef_gx_handle.specs.declared.held.Stage.{Stage}
use Rattle.pcef_gx_handle.specs.declared.held.Stage.TheVariants as stage
use Rattle.pcef_gx_handle.specs.declared.hearing.Heard.{Heard}
use Rattle.pcef_gx_handle.specs.declared.hearing.Heard.TheVariants as heard
use Rattle.pcef_gx_handle.specs.declared.hearing.HearRefusal.{HearRefusal}
use Rattle.pcef_gx_handle.specs.declared.hearing.HearRefusal.TheVariants as refusal

-- ---- what a message leaves beside its orders
-- LOSS_OF_BEARER, 5, is watched for where it is the last list of event triggers (clause 5.3.7).
abbrev pub has_loss : List ℕ → Bool
has_loss numbers = list_any (λ n. n == 5) numbers

abbrev pub watches : Option (List ℕ) → Bool → Bool
watches None before = before
watches (Some numbers) before = has_loss numbers

-- The QoS of the default bearer stays as it is. One that asks for another is told so, by the event trigger
-- DEFAULT-EPS-BEARER-QOS_MODIFICATION_FAILURE, 34, and the QoS that stays (clauses 4.5.5.9 and 5.3.7).
unfoldable pub kept_told : Qos → List ℕ
kept_told qos = avps_octets (number_avp event_trigger 34 ∷ qos_avp qos ∷ [])

abbrev pub told_if : Option Qos → Qos → List ℕ → List ℕ
told_if None qos kept = []
told_if (Some asked) qos kept = if same_qos asked qos then [] else kept

abbrev pub qos_told : Option Qos → Dialoguing → List ℕ
qos_told asked d = told_if asked d.profile.default_qos (kept_told d.profile.default_qos)

-- a dialogue that answered a request which leaves this
abbrev pub left_beside : Left → Answering → Dialoguing → Dialoguing
left_beside left after d = record d {
  answering = after;
  due = d.due ++ qos_told left.default_qos d;
  watches_loss = watches left.others d.watches_loss;
}

-- the session that a message changes keeps its workers, what is fixed for it, and its number
abbrev pub StaysAside : OpenSession → OpenSession → Type 0
StaysAside s t = StaysOpen s t × (t.world.workers ≡ s.world.workers)

-- ---- requests
-- in the session of the dialogue; where there is none, a request is refused
abbrev pub HearsIn : MessageHeader → List ℕ → Dialoguing → OpenSession → Result Heard HearRefusal → Dialoguing → Option OpenSession → Type 0
HearsIn h message d s (Ok (heard.Answered done)) e (Some t) =
    AnswersOnce h message d.answering s.world done e.answering t.world × StaysAside s t
    × (e ≡ left_beside (left_by_done done) e.answering d)
HearsIn h message d s (Err refusal.NoMemory) e (Some t) = (e ≡ d) × (t.world ≡ s.world) × StaysAside s t
HearsIn h message d s other e t = ⊥

abbrev pub HearsNowhere : MessageHeader → List ℕ → Dialoguing → Result Heard HearRefusal → Dialoguing → Type 0
HearsNowhere h message d (Ok heard.Refused) e =
    AnswersUnknown h message d.answering e.answering × (e ≡ record d { answering = e.answering })
HearsNowhere h message d (Err refusal.NoMemory) e = e ≡ d
HearsNowhere h message d other e = ⊥

abbrev pub HearsRequestAt : Place → MessageHeader → List ℕ → Dialoguing → Option OpenSession → Result Heard HearRefusal → Dialoguing → Option OpenSession → Type 0
HearsRequestAt (there s) h message d old result e new = HearsIn h message d s result e new
HearsRequestAt absent h message d old result e new = HearsNowhere h message d result e × (new ≡ old)
HearsRequestAt another h message d old result e new = (result ≡ Err refusal.OtherSession) × (e ≡ d) × (new ≡ old)

abbrev pub HearsRequest : MessageHeader → List ℕ → Dialoguing → Option OpenSession → Result Heard HearRefusal → Dialoguing → Option OpenSession → Type 0
HearsRequest h message d old result e new = HearsRequestAt (place_of d.session old) h message d old result e new

-- ---- answers
-- the QoS of the default bearer is the PCRF's, where it says one, else the proposed one (clause 4.5.1)
abbrev pub granted_profile : Asked → ProfileModel → ProfileModel
granted_profile asked p = with_qos (unwrap_or asked.default_qos p.default_qos) p

abbrev pub granted_setting : Asked → Dialoguing → Setting
granted_setting asked d = setting_of (granted_profile asked d.profile) built_in_offers

abbrev pub opened : Asked → ℕ → List ℕ → Dialoguing → Dialoguing
opened asked number due d = record (settled true d) {
  profile = granted_profile asked d.profile;
  session = Some number;
  due = drop d.due_out due;
  watches_loss = watches (others_beside asked) d.watches_loss;
}

-- the orders of the first answer are done on the session that opens
abbrev pub GrantsFirst : Asked → Dialoguing → Handle → Grant → OpenSession → Dialoguing → Type 0
GrantsFirst asked d old grant t e =
    (w : World) × (due : List ℕ) × IsOpenedWorld (granted_setting asked d) w
    × DoesGrant asked.orders w d.due grant t.world due × (t.world.workers ≡ [])
    × (t.world.session.setting ≡ granted_setting asked d) × (t.number ≡ old.next_number)
    × (e ≡ opened asked t.number due d)

abbrev pub OpensTo : Asked → Dialoguing → Handle → Grant → Dialoguing → Option OpenSession → Type 0
OpensTo asked d old grant e None = ⊥
OpensTo asked d old grant e (Some t) = GrantsFirst asked d old grant t e

-- The session opens, and the orders are done on it. Where none can have the QoS, the PCRF is told by a CCR-T.
abbrev pub OpensSession : Asked → Dialoguing → Handle → Result Heard HearRefusal → Dialoguing → Handle → Type 0
OpensSession asked d old (Ok (heard.Told grant left)) e new =
    OpensTo asked d old grant e new.session × (new.next_number ≡ number_after old.next_number)
    × (left_by left ≡ asked_beside asked)
OpensSession asked d old (Ok (heard.NotOpened fault)) e new =
    (fault_of (granted_profile asked d.profile) ≡ Some fault) × (e ≡ record (settled true d) { stage = stage.Ending }) × (new ≡ old)
OpensSession asked d old (Err refusal.NoMemory) e new = (e ≡ d) × (new ≡ old)
OpensSession asked d old other e new = ⊥

-- a handle that has a session keeps it
abbrev pub OpensWhere : Bool → Asked → Dialoguing → Handle → Result Heard HearRefusal → Dialoguing → Handle → Type 0
OpensWhere true asked d old result e new = (result ≡ Err refusal.AlreadyOpen) × (e ≡ d) × (new ≡ old)
OpensWhere false asked d old result e new = OpensSession asked d old result e new

abbrev pub granted_by : Asked → List ℕ → Dialoguing → Dialoguing
granted_by asked due d = record (settled true d) {
  due = drop d.due_out due;
  watches_loss = watches (others_beside asked) d.watches_loss;
}

-- the orders of an answer, and those for the keys that it leaves without a grant; reports that are forgotten can't be told
abbrev pub orders_due : List Order → Dialoguing → World → List Order
orders_due orders d w =
    with_stops w.session.setting w.session.journal (max (past_of d.ccrs d.ccrs.out) w.session.forgotten) orders

-- the orders are done on the session that is open
abbrev pub GrantsIn : Asked → Dialoguing → OpenSession → Result Heard HearRefusal → Dialoguing → Option OpenSession → Type 0
GrantsIn asked d s (Ok (heard.Told grant left)) e (Some t) =
    (left_by left ≡ asked_beside asked) × StaysAside s t
    × ((due : List ℕ) × DoesGrant (orders_due asked.orders d s.world) s.world (d.due ++ qos_told asked.default_qos d) grant t.world due
    × (e ≡ granted_by asked due d))
GrantsIn asked d s (Err refusal.NoMemory) e (Some t) = (e ≡ d) × (t.world ≡ s.world) × StaysAside s t
GrantsIn asked d s other e t = ⊥

abbrev pub GrantsAt : Place → Asked → Dialoguing → Option OpenSession → Result Heard HearRefusal → Dialoguing → Option OpenSession → Type 0
GrantsAt (there s) asked d old result e new = GrantsIn asked d s result e new
GrantsAt absent asked d old result e new = (result ≡ Err refusal.OtherSession) × (e ≡ d) × (new ≡ old)
GrantsAt another asked d old result e new = (result ≡ Err refusal.OtherSession) × (e ≡ d) × (new ≡ old)

-- A session that has ended takes no orders.
abbrev pub Grants : Stage → Asked → Dialoguing → Handle → Result Heard HearRefusal → Dialoguing → Handle → Type 0
Grants stage.Opening asked d old result e new = OpensWhere (is_some old.session) asked d old result e new
Grants stage.Open asked d old result e new =
    GrantsAt (place_of d.session old.session) asked d old.session result e new.session × (new.next_number ≡ old.next_number)
Grants stage.Ending asked d old result e new = (result ≡ Ok heard.Ended) × (e ≡ settled true d) × (new ≡ old)
Grants stage.Over asked d old result e new = (result ≡ Ok heard.Ended) × (e ≡ settled true d) × (new ≡ old)

-- what an answer says: one that is dropped changes nothing
abbrev pub HearsSaid : Result Saying Dropped → Dialoguing → Handle → Result Heard HearRefusal → Dialoguing → Handle → Type 0
HearsSaid (Err not_ours) d old result e new = (result ≡ Err refusal.NotOurs) × (e ≡ d) × (new ≡ old)
HearsSaid (Err (at_fault fault)) d old result e new = (result ≡ Err (refusal.AtFault fault.0)) × (e ≡ d) × (new ≡ old)
HearsSaid (Ok (failed code)) d old result e new = (result ≡ Ok (heard.Failed code)) × (e ≡ settled false d) × (new ≡ old)
HearsSaid (Ok (granted asked)) d old result e new = Grants d.stage asked d old result e new

-- when out of memory nothing changes
abbrev pub HearsAnswer : MessageHeader → List ℕ → Dialoguing → Handle → Result Heard HearRefusal → Dialoguing → Handle → Type 0
HearsAnswer h message d old result e new =
    ((result ≡ Err refusal.NoMemory) × (e ≡ d) × (new ≡ old))
    ⊎ ((due : Result Saying Dropped) × CcaDue d.answering.speaker d.ccrs.out h message due × HearsSaid due d old result e new)

-- ---- messages
abbrev pub HearsBy : Bool → MessageHeader → List ℕ → Dialoguing → Handle → Result Heard HearRefusal → Dialoguing → Handle → Type 0
HearsBy true h message d old result e new =
    HearsRequest h message d old.session result e new.session × (new.next_number ≡ old.next_number)
HearsBy false h message d old result e new = HearsAnswer h message d old result e new

-- fewer than 20 octets are no message
abbrev pub HearsHeader : Option MessageHeader → List ℕ → Dialoguing → Handle → Result Heard HearRefusal → Dialoguing → Handle → Type 0
HearsHeader None message d old result e new = (result ≡ Err refusal.NoMessage) × (e ≡ d) × (new ≡ old)
HearsHeader (Some h) message d old result e new = HearsBy h.request h message d old result e new

abbrev pub Hears : List ℕ → Option Dialoguing → Handle → Result Heard HearRefusal → Option Dialoguing → Handle → Type 0
Hears message None old result None new = (result ≡ Err refusal.NoDialogue) × (new ≡ old)
Hears message (Some d) old result (Some e) new = HearsHeader (header_of message) message d old result e new
Hears message d old result e new = ⊥
