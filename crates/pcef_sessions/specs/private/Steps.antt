-- The steps to an answer.
use Rattle.std.specs.Prelude.{ℕ, ◌≡◌, ◌≢◌, ◌⊎◌, List, true, false, Option, Some, None, Result, string_bytes}
use Rattle.pcef_model.specs.Setting.{Setting}
use Rattle.pcef_world.specs.Steps.{Standing}
use Rattle.pcef_script.specs.declared.step.LineAnswer.{LineAnswer}
use Rattle.pcef_line.specs.declared.line.Line.{Line}
use Rattle.pcef_line.specs.declared.fault.LineFault.{LineFault}
use Rattle.pcef_script.specs.ScriptAnswers.{AnswersAs, AnswersLine, IsDoneOrNot, LacksForLine, LineDue}
use Rattle.pcef_script.specs.ScriptLines.{is_blank_line}
use Rattle.pcef_sessions.specs.declared.asking.Asking.{Asking}
use Rattle.pcef_sessions.specs.declared.asking.Asking.TheVariants as asking
use Rattle.pcef_sessions.specs.declared.sessions.Sessions.{Sessions}
use Rattle.pcef_sessions.specs.Asked.{asked_of}
use Rattle.pcef_sessions.specs.Standing.{fixed, held}
use Rattle.pcef_sessions.specs.Under.{LacksUnder, Session, Says, ShowsLines, UnderName, asking_fault_text, done_text, is_open_text, no_session_text, opened, renewal_text, renewed, with_address}

-- nothing changes under the other names
abbrev pub OthersStay : Sessions → List ℕ → Sessions → Type 0
OthersStay old name new = (other : List ℕ) → other ≢ name → held new other ≡ held old other

-- nothing changes under any name
abbrev pub AllStay : Sessions → Sessions → Type 0
AllStay old new = (any : List ℕ) → held new any ≡ held old any

-- a session that is there answers as a script does
abbrev pub Runs : Option Session → List ℕ → Option LineAnswer → Option Session → Type 0
Runs None line None after = after ≡ None
Runs None line (Some a) after = ⊥
Runs (Some s) line None after = ⊥
Runs (Some s) line (Some a) after =
    (standing : Standing) × AnswersLine s.setting s.standing line (string_bytes a.text) a.is_fault standing
    × (after ≡ Some (record s { standing = standing }))

-- memory is lacking for the session's answer
abbrev pub RunLacks : Option Session → List ℕ → Option Session → Type 0
RunLacks None line after = ⊥
RunLacks (Some s) line after =
    (standing : Standing) × LacksForLine s.setting s.standing line standing × (after ≡ Some (record s { standing = standing }))

-- a session that is there answers a line of which this was read
abbrev pub RunsRead : Option Session → Result Line LineFault → Option LineAnswer → Option Session → Type 0
RunsRead None read None after = after ≡ None
RunsRead None read (Some a) after = ⊥
RunsRead (Some s) read None after = ⊥
RunsRead (Some s) read (Some a) after =
    (standing : Standing) × AnswersAs s.setting s.standing read (string_bytes a.text) a.is_fault standing
    × (after ≡ Some (record s { standing = standing }))

abbrev pub RunReadLacks : Option Session → Result Line LineFault → Option Session → Type 0
RunReadLacks None read after = ⊥
RunReadLacks (Some s) read after =
    (standing : Standing) × IsDoneOrNot (AnswersAs s.setting s.standing read) s.standing standing
    × (after ≡ Some (record s { standing = standing }))

-- this is read of a line that asks nothing of the sessions
abbrev pub IsReadOf : List ℕ → Result Line LineFault → Type 0
IsReadOf line read = LineDue line read × (asked_of line ≡ asking.Script) × (is_blank_line line ≡ false)

-- what the sessions answer, whatever a script would
abbrev pub AsksOf : Setting → Option Session → Asking → LineAnswer → Option Session → Type 0
AsksOf p None (asking.Open ue) a after = Says done_text false (Some (opened (with_address ue p))) (string_bytes a.text) a.is_fault after
AsksOf p (Some s) (asking.Open ue) a after = Says is_open_text false (Some s) (string_bytes a.text) a.is_fault after
AsksOf p None asking.Renew a after = Says no_session_text false None (string_bytes a.text) a.is_fault after
AsksOf p (Some s) asking.Renew a after = Says (renewal_text s) false (Some (renewed s)) (string_bytes a.text) a.is_fault after
AsksOf p None asking.Lines a after = Says no_session_text false None (string_bytes a.text) a.is_fault after
AsksOf p (Some s) asking.Lines a after = ShowsLines s (string_bytes a.text) a.is_fault after
AsksOf p None asking.End a after = Says no_session_text false None (string_bytes a.text) a.is_fault after
AsksOf p (Some s) asking.End a after = Says done_text false None (string_bytes a.text) a.is_fault after
AsksOf p there (asking.Fault why) a after = Says (asking_fault_text why) true there (string_bytes a.text) a.is_fault after
AsksOf p there asking.Script a after = Says no_session_text false there (string_bytes a.text) a.is_fault after

abbrev pub Asks : Sessions → List ℕ → Asking → LineAnswer → Sessions → Type 0
Asks old name asks a new = AsksOf (fixed old) (held old name) asks a (held new name) × OthersStay old name new

-- memory was lacking: nothing changes, or the session is renewed, and the answer alone is lacking
abbrev pub AskLacks : Option Session → Asking → Option Session → Type 0
AskLacks there asks after = (after ≡ there) ⊎ ((s : Session) × (there ≡ Some s) × (asks ≡ asking.Renew) × (after ≡ Some (renewed s)))

abbrev pub LacksAsked : Sessions → List ℕ → Asking → Sessions → Type 0
LacksAsked old name asks new = AskLacks (held old name) asks (held new name) × OthersStay old name new

-- the answer of a script stands where the line asks nothing of the sessions
abbrev pub InsteadOf : Setting → Option Session → Asking → LineAnswer → LineAnswer → Option Session → Type 0
InsteadOf p there (asking.Open ue) script a after = AsksOf p there (asking.Open ue) a after
InsteadOf p there asking.Renew script a after = AsksOf p there asking.Renew a after
InsteadOf p there asking.Lines script a after = AsksOf p there asking.Lines a after
InsteadOf p there asking.End script a after = AsksOf p there asking.End a after
InsteadOf p there (asking.Fault why) script a after = AsksOf p there (asking.Fault why) a after
InsteadOf p there asking.Script script a after = (a ≡ script) × (after ≡ there)

abbrev pub AsksInstead : Sessions → List ℕ → List ℕ → LineAnswer → LineAnswer → Sessions → Type 0
AsksInstead old name line script a new =
    InsteadOf (fixed old) (held old name) (asked_of line) script a (held new name) × OthersStay old name new

abbrev pub AnswersIn : Sessions → List ℕ → List ℕ → LineAnswer → Sessions → Type 0
AnswersIn old name line a new =
    UnderName (fixed old) (held old name) line (string_bytes a.text) a.is_fault (held new name) × OthersStay old name new

abbrev pub LacksIn : Sessions → List ℕ → List ℕ → Sessions → Type 0
LacksIn old name line new = LacksUnder (fixed old) (held old name) line (held new name) × OthersStay old name new

-- whatever line this was read of
abbrev pub AnswersRead : Sessions → List ℕ → Result Line LineFault → LineAnswer → Sessions → Type 0
AnswersRead old name read a new = (line : List ℕ) → IsReadOf line read → AnswersIn old name line a new

abbrev pub LacksRead : Sessions → List ℕ → Result Line LineFault → Sessions → Type 0
LacksRead old name read new = (line : List ℕ) → IsReadOf line read → LacksIn old name line new
