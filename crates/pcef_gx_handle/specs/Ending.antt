-- The end of a session, and the events of its access (TS 29.212, clauses 4.5.3, 4.5.7 and 4.5.9).
use Rattle.std.specs.Prelude.{ℕ, ◌≡◌, List, [], Option, Some, None, Result, Ok, Err}
use Rattle.pcef_gx.specs.Names.{name_of}
use Rattle.pcef_handle.specs.Answering.{StaysOpen}
use Rattle.pcef_handle.specs.declared.held.OpenSession.{OpenSession}
use Rattle.pcef_model.specs.Outcomes.{CommandStep}
use Rattle.pcef_model.specs.declared.answer.Accepted.{Accepted}
use Rattle.pcef_model.specs.declared.answer.Refusal.{Refusal}
use Rattle.pcef_model.specs.declared.answer.Refusal.TheVariants as of
use Rattle.pcef_model.specs.declared.command.Command.{Command}
use Rattle.pcef_model.specs.declared.command.Command.TheVariants.{Notice, Terminate}
use Rattle.pcef_model.specs.declared.trigger.AccessKind.{AccessKind}
use Rattle.pcef_gx_handle.specs.Dialogues.{Dialoguing, Place, absent, another, place_of, there}
use Rattle.pcef_gx_handle.specs.Hearing.{StaysAside}
use Rattle.pcef_gx_handle.specs.declared.ending.EndRefusal.{EndRefusal}
use Rattle.pcef_gx_handle.specs.declared.ending.EndRefusal.TheVariants as refusal
use Rattle.pcef_gx_handle.specs.declared.ending.NoticeRefusal.{NoticeRefusal}
use Rattle.pcef_gx_handle.specs.declared.ending.NoticeRefusal.TheVariants as notice
use Rattle.pcef_gx_handle.specs.declared.held.Stage.{Stage}
use Rattle.pcef_gx_handle.specs.declared.held.Stage.TheVariants as stage

-- a command of the session is answered as due, or refused when out of memory
abbrev pub Commands : Command → OpenSession → Result Accepted Refusal → OpenSession → Type 0
Commands c s answer t =
    CommandStep s.world.session.setting c s.world.session.journal answer t.world.session.journal × StaysAside s t

-- ---- the end
-- a session that was terminated before has ended, too
abbrev pub ended_by : Result Accepted Refusal → Result (Unit {0}) EndRefusal
ended_by (Ok accepted) = Ok tt
ended_by (Err of.Terminated) = Ok tt
ended_by (Err (of.WorkersAttached count)) = Err refusal.WorkersAttached
ended_by (Err other) = Err refusal.NoMemory

-- its last usage is due from then on
abbrev pub ending : Result (Unit {0}) EndRefusal → Dialoguing → Dialoguing
ending (Ok done) d = record d { stage = stage.Ending }
ending (Err why) d = d

abbrev pub EndsIn : Dialoguing → OpenSession → Result (Unit {0}) EndRefusal → Dialoguing → Option OpenSession → Type 0
EndsIn d s result e None = ⊥
EndsIn d s result e (Some t) =
    (answer : Result Accepted Refusal) × Commands Terminate s answer t × (result ≡ ended_by answer) × (e ≡ ending result d)

abbrev pub EndsAt : Place → Dialoguing → Option OpenSession → Result (Unit {0}) EndRefusal → Dialoguing → Option OpenSession → Type 0
EndsAt (there s) d old result e new = EndsIn d s result e new
EndsAt absent d old result e new = (result ≡ Err refusal.OtherSession) × (e ≡ d) × (new ≡ old)
EndsAt another d old result e new = (result ≡ Err refusal.OtherSession) × (e ≡ d) × (new ≡ old)

-- a session that isn't granted yet: what was proposed isn't due any more, but a CCR-T is
abbrev pub forsaken : Dialoguing → Dialoguing
forsaken d = record d { stage = stage.Ending; due = []; due_out = 0 }

abbrev pub EndsBy : Stage → Dialoguing → Option OpenSession → Result (Unit {0}) EndRefusal → Dialoguing → Option OpenSession → Type 0
EndsBy stage.Opening d old result e new = (result ≡ Ok tt) × (e ≡ forsaken d) × (new ≡ old)
EndsBy stage.Open d old result e new = EndsAt (place_of d.session old) d old result e new
EndsBy stage.Ending d old result e new = (result ≡ Ok tt) × (e ≡ d) × (new ≡ old)
EndsBy stage.Over d old result e new = (result ≡ Ok tt) × (e ≡ d) × (new ≡ old)

abbrev pub EndsGx : Option Dialoguing → Option OpenSession → Result (Unit {0}) EndRefusal → Option Dialoguing → Option OpenSession → Type 0
EndsGx None old result None new = (result ≡ Err refusal.NoDialogue) × (new ≡ old)
EndsGx (Some d) old result (Some e) new = EndsBy d.stage d old result e new
EndsGx d old result e new = ⊥

-- ---- an event of the access: the data of its AVP stand in a session as names do
abbrev pub noticed_by : Result Accepted Refusal → Result (Unit {0}) NoticeRefusal
noticed_by (Ok accepted) = Ok tt
noticed_by (Err why) = Err (notice.Session why)

abbrev pub NoticesIn : AccessKind → Option (List ℕ) → OpenSession → Result (Unit {0}) NoticeRefusal → Option OpenSession → Type 0
NoticesIn kind None s result new = (result ≡ Err notice.NoValue) × (new ≡ Some s)
NoticesIn kind (Some value) s result None = ⊥
NoticesIn kind (Some value) s result (Some t) =
    (answer : Result Accepted Refusal) × Commands (Notice kind value) s answer t × (result ≡ noticed_by answer)

abbrev pub Notices : AccessKind → List ℕ → Option OpenSession → Result (Unit {0}) NoticeRefusal → Option OpenSession → Type 0
Notices kind octets None result new = (result ≡ Err notice.NoSession) × (new ≡ None)
Notices kind octets (Some s) result new = NoticesIn kind (name_of octets) s result new
