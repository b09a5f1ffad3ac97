-- What is answered under one name (own choice).
use Rattle.std.specs.Prelude.{ℕ, ◌≡◌, List, [], ◌∷◌, codes, Bool, true, false, Option, Some, None}
use Rattle.pcef_packet.specs.declared.header.Addr.{Addr}
use Rattle.pcef_model.specs.Setting.{Setting}
use Rattle.pcef_model.specs.Journals.{report_count}
use Rattle.pcef_world.specs.Steps.{Standing, at_start}
use Rattle.pcef_line.specs.declared.fault.LineFault.TheVariants as line
use Rattle.pcef_answer.specs.FaultAnswers.{fault_text}
use Rattle.pcef_renewal_lines.specs.Lines.{AnswersLines}
use Rattle.pcef_renewal_answer.specs.Renewed.{Kept, renew_outcome}
use Rattle.pcef_script.specs.ScriptAnswers.{AnswersLine, IsDoneOrNot}
use Rattle.pcef_sessions.specs.declared.asking.Asking.{Asking}
use Rattle.pcef_sessions.specs.declared.asking.Asking.TheVariants as asking
use Rattle.pcef_sessions.specs.declared.asking.AskingFault.{AskingFault}
use Rattle.pcef_sessions.specs.declared.asking.AskingFault.TheVariants as fault
use Rattle.pcef_sessions.specs.Asked.{asked_of}

-- a session that is open: what is fixed for it, and how it and its workers stand
pub record Session : Type 0 where
  pub setting : Setting
  pub standing : Standing

-- a session as it is kept: beside it, how many of its reports are forgotten
pub record KeptSession : Type 0 where
  pub session : Session
  pub forgotten : ℕ

-- an address that is given takes the place of the profile's
abbrev pub with_address : Option Addr → Setting → Setting
with_address None p = p
with_address (Some ue) p = record p { ue = ue }

abbrev pub opened : Setting → Session
opened p = record { setting = p; standing = at_start }

-- ---- a renewal
-- each report before the line was written, and is forgotten
abbrev pub written : Standing → Kept
written s = record { standing = s; forgotten = report_count s.journal }

-- the answer to a renewal
abbrev pub renewal_text : Session → List ℕ
renewal_text s = (renew_outcome s.setting (written s.standing)).0

-- what stands in the place of a session from its renewal on: the new session, or itself where it isn't renewed
abbrev pub renewed : Session → Session
renewed s = record s { standing = (renew_outcome s.setting (written s.standing)).1.standing }

-- ---- texts
abbrev pub done_text : List ℕ
done_text = codes "{\"ok\":true}"

abbrev pub no_session_text : List ℕ
no_session_text = codes "{\"name\":\"NoSession\",\"refused\":0}"

abbrev pub is_open_text : List ℕ
is_open_text = codes "{\"name\":\"SessionIsOpen\",\"refused\":1}"

abbrev pub bad_name_text : List ℕ
bad_name_text = codes "{\"fault\":1,\"name\":\"BadName\"}"

abbrev pub bad_ue_text : List ℕ
bad_ue_text = codes "{\"fault\":8,\"field\":\"ue\",\"name\":\"BadField\"}"

abbrev pub asking_fault_text : AskingFault → List ℕ
asking_fault_text fault.UnknownField = fault_text line.UnknownField
asking_fault_text fault.BadUe = bad_ue_text

-- ---- one line
-- the answer, whether the line is at fault, and what stands under the name then
abbrev pub Says : List ℕ → Bool → Option Session → List ℕ → Bool → Option Session → Type 0
Says due is_fault next text at_fault after = (text ≡ due) × (at_fault ≡ is_fault) × (after ≡ next)

-- the lines that make a new session like this one are shown, and nothing changes
abbrev pub ShowsLines : Session → List ℕ → Bool → Option Session → Type 0
ShowsLines s text at_fault after = AnswersLines s.setting s.standing.journal text × (at_fault ≡ false) × (after ≡ Some s)

-- where no session is open, one may be opened, and nothing else is done
abbrev pub WithoutSession : Setting → Asking → List ℕ → Bool → Option Session → Type 0
WithoutSession p (asking.Open ue) text at_fault after = Says done_text false (Some (opened (with_address ue p))) text at_fault after
WithoutSession p asking.Renew text at_fault after = Says no_session_text false None text at_fault after
WithoutSession p asking.Lines text at_fault after = Says no_session_text false None text at_fault after
WithoutSession p asking.End text at_fault after = Says no_session_text false None text at_fault after
WithoutSession p (asking.Fault why) text at_fault after = Says (asking_fault_text why) true None text at_fault after
WithoutSession p asking.Script text at_fault after = Says no_session_text false None text at_fault after

-- a session that is open answers a line of a script as the script does, and goes on; `renew` puts a new one in its place,
-- `lines` leaves it as it is, and `end` takes it away
abbrev pub InSession : Session → Asking → List ℕ → List ℕ → Bool → Option Session → Type 0
InSession s (asking.Open ue) line text at_fault after = Says is_open_text false (Some s) text at_fault after
InSession s asking.Renew line text at_fault after = Says (renewal_text s) false (Some (renewed s)) text at_fault after
InSession s asking.Lines line text at_fault after = ShowsLines s text at_fault after
InSession s asking.End line text at_fault after = Says done_text false None text at_fault after
InSession s (asking.Fault why) line text at_fault after = Says (asking_fault_text why) true (Some s) text at_fault after
InSession s asking.Script line text at_fault after =
    (standing : Standing) × AnswersLine s.setting s.standing line text at_fault standing × (after ≡ Some (record s { standing = standing }))

abbrev pub UnderBy : Setting → Option Session → Asking → List ℕ → List ℕ → Bool → Option Session → Type 0
UnderBy p None asks line text at_fault after = WithoutSession p asks text at_fault after
UnderBy p (Some s) asks line text at_fault after = InSession s asks line text at_fault after

-- the answer to a line for a name, whether the line is at fault, and what stands under the name then
abbrev pub UnderName : Setting → Option Session → List ℕ → List ℕ → Bool → Option Session → Type 0
UnderName p there line text at_fault after = UnderBy p there (asked_of line) line text at_fault after

-- memory was lacking for the line: what stands under the name is as before, or as after the line
abbrev pub LacksUnder : Setting → Option Session → List ℕ → Option Session → Type 0
LacksUnder p there line after = IsDoneOrNot (UnderName p there line) there after
