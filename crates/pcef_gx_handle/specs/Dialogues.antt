-- The dialogue of one session with its PCRF: where it stands, and what is due (TS 29.212, clauses 4.5.1, 4.5.3 and 4.5.7).
use Rattle.std.specs.Prelude.{ℕ, ◌≡◌, ◌==◌, ◌+◌, ◌++◌, Bool, true, false, List, drop, Option, Some, None, option_map, if◌then◌else◌}
use Rattle.pcef_gx_dialogue.specs.Ccrs.{Ccrs, answered_so}
use Rattle.pcef_gx_dialogue.specs.Repeats.{Answering}
use Rattle.pcef_gx_messages.specs.declared.requesting.RequestKind.{RequestKind}
use Rattle.pcef_gx_messages.specs.declared.requesting.RequestKind.TheVariants.{Initial, Termination}
use Rattle.pcef_handle.specs.declared.held.OpenSession.{OpenSession}
use Rattle.pcef_model.specs.ProfileModel.{ProfileModel}
use Rattle.pcef_rule.specs.declared.quantity.Qos.{Qos}
use Rattle.pcef_gx_handle.specs.declared.held.Stage.{Stage}
use Rattle.pcef_gx_handle.specs.declared.held.Stage.TheVariants.{Ending, Open, Opening, Over}

-- who speaks and the last RAR; the CCRs; what is fixed for the session, and its number once it is open; where the dialogue
-- stands; the AVPs that are due for the next CCR beside those of reports, as octets, and how many of these octets the CCR
-- tells that is out; and whether the PCRF asked for lost bearers
pub record Dialoguing : Type 0 where
  pub answering : Answering
  pub ccrs : Ccrs
  pub profile : ProfileModel
  pub session : Option ℕ
  pub stage : Stage
  pub due : List ℕ
  pub due_out : ℕ
  pub watches_loss : Bool

-- the answer to the last request
abbrev pub reply_of : Dialoguing → Option (List ℕ)
reply_of d = option_map (λ last. last.answer.message) d.answering.last

-- ---- the session of a dialogue, in the handle that a caller shows: it is there, there is none, or it is another's
pub data Place : Type 0 where
  there : OpenSession → Place
  absent : Place
  another : Place

abbrev pub place_of : Option ℕ → Option OpenSession → Place
place_of (Some number) (Some s) = if s.number == number then there s else another
place_of _ _ = absent

-- ---- a CCR is answered, with success or not
-- Without success there is no session, where none was open yet. The answer to the CCR-T ends the dialogue, whatever it says.
abbrev pub stage_after : Bool → Option RequestKind → Stage → Stage
stage_after true kind Opening = Open
stage_after false kind Opening = Over
stage_after success kind Open = Open
stage_after false (Some Initial) Ending = Over
stage_after success (Some Termination) Ending = Over
stage_after success kind Ending = Ending
stage_after success kind Over = Over

-- What the CCR told isn't due any more; else it stays due.
abbrev pub due_after : Bool → ℕ → List ℕ → List ℕ
due_after true told due = drop told due
due_after false told due = due

abbrev pub kind_out : Dialoguing → Option RequestKind
kind_out d = option_map (λ o. o.kind) d.ccrs.out

abbrev pub settled : Bool → Dialoguing → Dialoguing
settled success d = record d {
  ccrs = answered_so success d.ccrs;
  stage = stage_after success (kind_out d) d.stage;
  due = due_after success d.due_out d.due;
  due_out = 0;
}

-- the profile of a session with another QCI and ARP of the default bearer
abbrev pub with_qos : Qos → ProfileModel → ProfileModel
with_qos qos p = record p { default_qos = qos }
