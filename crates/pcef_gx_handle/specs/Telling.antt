-- Which CCR is due, and what it tells (TS 29.212, clauses 4.5.1, 4.5.3, 4.5.7 and 4.5.16).
use Rattle.std.specs.Prelude.{ℕ, ◌≡◌, ◌<◌, ◌≤◌, ◌⊎◌, ◌+◌, ◌++◌, ◌==◌, ◌&&◌, Bool, true, false, is_some, nat_lt, List, [], length, Option, Some, None, Result, Ok, Err, if◌then◌else◌}
use Rattle.pcef_diameter.specs.Spellings.{avps_octets}
use Rattle.pcef_gx_dialogue.specs.Ccrs.{LacksNumber, given_up, sent_again, sent_with}
use Rattle.pcef_gx_messages.specs.declared.requesting.RequestKind.{RequestKind}
use Rattle.pcef_gx_messages.specs.declared.requesting.RequestKind.TheVariants as kind
use Rattle.pcef_gx_messages.specs.declared.requesting.RequestMark.{RequestMark}
use Rattle.pcef_gx_updates.specs.Updates.{most_reports, untold, update_avps}
use Rattle.pcef_gx_updates.specs.declared.update.Update.{Update}
use Rattle.pcef_handle.specs.declared.held.OpenSession.{OpenSession}
use Rattle.pcef_model.specs.Entries.{Journal}
use Rattle.pcef_model.specs.Journals.{report_count}
use Rattle.pcef_model.specs.declared.report.Report.{Report}
use Rattle.pcef_gx_handle.specs.Dialogues.{Dialoguing, Place, absent, another, place_of, there}
use Rattle.pcef_gx_handle.specs.declared.held.Stage.{Stage}
use Rattle.pcef_gx_handle.specs.declared.held.Stage.TheVariants as stage
use Rattle.pcef_gx_handle.specs.declared.telling.NextRefusal.{NextRefusal}
use Rattle.pcef_gx_handle.specs.declared.telling.NextRefusal.TheVariants as refusal

-- ---- one CCR
-- It tells reports by these AVPs, so many, and behind them what else is due; all of it stays due until it is answered.
abbrev pub GoesOut : RequestMark → RequestKind → List ℕ → ℕ → Dialoguing → Dialoguing → Type 0
GoesOut mark of avps count d e =
    e ≡ record d {
      ccrs = sent_with d.answering.speaker mark of (avps ++ d.due) count d.ccrs;
      due_out = length d.due;
    }

-- It goes out, or it has no number, or there is no memory for it, and then nothing changes.
unfoldable pub Sends : RequestMark → RequestKind → List ℕ → ℕ → Dialoguing → Result (Option RequestKind) NextRefusal → Dialoguing → Type 0
Sends mark of avps count d (Ok (Some sent)) e = (sent ≡ of) × GoesOut mark of avps count d e
Sends mark of avps count d (Err refusal.NoNumber) e = LacksNumber count d.ccrs × (e ≡ d)
Sends mark of avps count d (Err refusal.NoMemory) e = e ≡ d
Sends mark of avps count d other e = ⊥

-- the AVPs and the count of the reports that a CCR tells next
abbrev pub next_avps : Dialoguing → OpenSession → List ℕ
next_avps d s = avps_octets (update_avps d.watches_loss (untold s.world.session.journal d.ccrs.told))

abbrev pub next_count : Dialoguing → OpenSession → ℕ
next_count d s = length (untold s.world.session.journal d.ccrs.told)

-- what a CCR tells next is at hand; or reports are forgotten that weren't told; or there is no memory
abbrev pub TellsNext : OpenSession → ℕ → Bool → Result Update NextRefusal → Type 0
TellsNext s told watches (Ok u) =
    (s.world.session.forgotten ≤ told)
    × (u.avps.items ≡ avps_octets (update_avps watches (untold s.world.session.journal told)))
    × (u.count ≡ length (untold s.world.session.journal told))
TellsNext s told watches (Err refusal.Forgotten) = told < s.world.session.forgotten
TellsNext s told watches (Err refusal.NoMemory) = Unit {0}
TellsNext s told watches (Err other) = ⊥

-- ---- an open session: a CCR-U, where there is anything to tell
abbrev pub SendsIf : Bool → RequestMark → List ℕ → ℕ → Dialoguing → Result (Option RequestKind) NextRefusal → Dialoguing → Type 0
SendsIf true mark avps count d result e = (result ≡ Ok None) × (e ≡ d)
SendsIf false mark avps count d result e = Sends mark kind.Update avps count d result e

abbrev pub SendsUpdate : RequestMark → List ℕ → ℕ → Dialoguing → Result (Option RequestKind) NextRefusal → Dialoguing → Type 0
SendsUpdate mark avps count d result e = SendsIf ((count == 0) && (length d.due == 0)) mark avps count d result e

abbrev pub Updates : RequestMark → Dialoguing → OpenSession → Result (Option RequestKind) NextRefusal → Dialoguing → Type 0
Updates mark d s result e = SendsUpdate mark (next_avps d s) (next_count d s) d result e

-- ---- a session that ended: a CCR-T tells the last reports; where more are due than one tells, CCR-Us go before it
abbrev pub last_kind : Journal → ℕ → RequestKind
last_kind j told = if nat_lt (told + most_reports) (report_count j) then kind.Update else kind.Termination

abbrev pub Ends : RequestMark → Dialoguing → OpenSession → Result (Option RequestKind) NextRefusal → Dialoguing → Type 0
Ends mark d s result e =
    Sends mark (last_kind s.world.session.journal d.ccrs.told) (next_avps d s) (next_count d s) d result e

-- Reports that are forgotten before they were told can't be told any more. When out of memory nothing changes.
abbrev pub IfKept : Dialoguing → OpenSession → (Result (Option RequestKind) NextRefusal → Dialoguing → Type 0) → Result (Option RequestKind) NextRefusal → Dialoguing → Type 0
IfKept d s P result e =
    ((d.ccrs.told < s.world.session.forgotten) × (result ≡ Err refusal.Forgotten) × (e ≡ d))
    ⊎ ((result ≡ Err refusal.NoMemory) × (e ≡ d)) ⊎ ((s.world.session.forgotten ≤ d.ccrs.told) × P result e)

-- ---- in the session of the dialogue
abbrev pub UpdatesAt : Place → RequestMark → Dialoguing → Result (Option RequestKind) NextRefusal → Dialoguing → Type 0
UpdatesAt (there s) mark d result e = IfKept d s (Updates mark d s) result e
UpdatesAt absent mark d result e = (result ≡ Err refusal.OtherSession) × (e ≡ d)
UpdatesAt another mark d result e = (result ≡ Err refusal.OtherSession) × (e ≡ d)

abbrev pub EndsAt : Place → RequestMark → Dialoguing → Result (Option RequestKind) NextRefusal → Dialoguing → Type 0
EndsAt (there s) mark d result e = IfKept d s (Ends mark d s) result e
EndsAt absent mark d result e = (result ≡ Err refusal.OtherSession) × (e ≡ d)
EndsAt another mark d result e = (result ≡ Err refusal.OtherSession) × (e ≡ d)

-- A session that never opened has no reports.
abbrev pub EndsBy : Option ℕ → RequestMark → Dialoguing → Option OpenSession → Result (Option RequestKind) NextRefusal → Dialoguing → Type 0
EndsBy None mark d s result e = Sends mark kind.Termination [] 0 d result e
EndsBy (Some number) mark d s result e = EndsAt (place_of (Some number) s) mark d result e

-- ---- the next CCR
abbrev pub NextAt : Stage → RequestMark → Dialoguing → Option OpenSession → Result (Option RequestKind) NextRefusal → Dialoguing → Type 0
NextAt stage.Opening mark d s result e = Sends mark kind.Initial [] 0 d result e
NextAt stage.Open mark d s result e = UpdatesAt (place_of d.session s) mark d result e
NextAt stage.Ending mark d s result e = EndsBy d.session mark d s result e
NextAt stage.Over mark d s result e = (result ≡ Ok None) × (e ≡ d)

-- one is out at a time (RFC 8506, clause 8.2)
abbrev pub NextBy : Bool → RequestMark → Dialoguing → Option OpenSession → Result (Option RequestKind) NextRefusal → Dialoguing → Type 0
NextBy true mark d s result e = (result ≡ Ok None) × (e ≡ d)
NextBy false mark d s result e = NextAt d.stage mark d s result e

abbrev pub Next : RequestMark → Option Dialoguing → Option OpenSession → Result (Option RequestKind) NextRefusal → Option Dialoguing → Type 0
Next mark None s result None = result ≡ Err refusal.NoDialogue
Next mark (Some d) s result (Some e) = NextBy (is_some d.ccrs.out) mark d s result e
Next mark d s result e = ⊥

-- ---- the CCR that is out
abbrev pub again : Dialoguing → Dialoguing
again d = record d { ccrs = sent_again d.ccrs }

-- what it tells stays due
abbrev pub forgone : Dialoguing → Dialoguing
forgone d = record d { ccrs = given_up d.ccrs; due_out = 0 }

abbrev pub out_of : Option Dialoguing → Bool
out_of None = false
out_of (Some d) = is_some d.ccrs.out
