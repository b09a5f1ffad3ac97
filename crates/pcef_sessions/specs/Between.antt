-- What stands under a name between `open`, renewals and `end` (own choice).
use Rattle.std.specs.Prelude.{ℕ, ◌≡◌, ◌+◌, All, Bool, List, [], ◌∷◌, ◌++◌, Option, Some, None}
use Rattle.pcef_packet.specs.declared.header.Addr.{Addr}
use Rattle.pcef_model.specs.Setting.{Setting}
use Rattle.pcef_world.specs.Steps.{Standing, at_start}
use Rattle.pcef_script.specs.ScriptAnswers.{Answers, fault_count}
use Rattle.pcef_sessions.specs.declared.asking.Asking.{Asking}
use Rattle.pcef_sessions.specs.declared.asking.Asking.TheVariants as asking
use Rattle.pcef_sessions.specs.Asked.{asked_of}
use Rattle.pcef_sessions.specs.Sayings.{Said}
use Rattle.pcef_sessions.specs.Served.{Under}
use Rattle.pcef_sessions.specs.Under.{Session, UnderName, done_text, renewal_text, renewed, with_address}

-- a line that opens no session, renews none, shows none and ends none
abbrev pub IsOfScript : List ℕ → Type 0
IsOfScript line = asked_of line ≡ asking.Script

-- texts as a script writes them, and how many of the lines are at fault
abbrev pub texts_of : List Said → List ℕ
texts_of [] = []
texts_of (said ∷ more) = (said.text ++ 10 ∷ []) ++ texts_of more

abbrev pub faults_of : List Said → ℕ
faults_of [] = 0
faults_of (said ∷ more) = fault_count said.at_fault + faults_of more

-- an open session answers lines of a script as a script does on a session that stands so
abbrev pub OpenSessionsAreScripts : Type 0
OpenSessionsAreScripts = (p : Setting) (s : Session) (lines : List (List ℕ)) (saids : List Said) (after : Option Session)
    → All IsOfScript lines → Under p (Some s) lines saids after
    → (standing : Standing) × Answers s.setting s.standing lines (texts_of saids) (faults_of saids) standing × (after ≡ Some (record s { standing = standing }))

-- what stands under a name behind a renewal, up to the next one, is what it answers itself, and then what a script answers on the
-- session that stands there from then on
abbrev pub RenewedSessionsAreScripts : Type 0
RenewedSessionsAreScripts = (p : Setting) (s : Session) (first : List ℕ) (lines : List (List ℕ)) (saids : List Said) (after : Option Session)
    → asked_of first ≡ asking.Renew → All IsOfScript lines → Under p (Some s) (first ∷ lines) saids after
    → (text : List ℕ) × (faults : ℕ) × (standing : Standing) × Answers s.setting (renewed s).standing lines text faults standing
    × (texts_of saids ≡ (renewal_text s ++ 10 ∷ []) ++ text) × (faults_of saids ≡ faults) × (after ≡ Some (record s { standing = standing }))

-- a line that shows the lines of a session leaves what stands under its name as it is
abbrev pub LinesChangeNothing : Type 0
LinesChangeNothing = (p : Setting) (there : Option Session) (line text : List ℕ) (at_fault : Bool) (after : Option Session)
    → asked_of line ≡ asking.Lines → UnderName p there line text at_fault after → after ≡ there

-- what stands under a name between `open` and `end` is what a script on a new session answers
abbrev pub WholeSessionsAreScripts : Type 0
WholeSessionsAreScripts = (p : Setting) (ue : Option Addr) (first last : List ℕ) (lines : List (List ℕ)) (saids : List Said) (after : Option Session)
    → asked_of first ≡ asking.Open ue → All IsOfScript lines → asked_of last ≡ asking.End → Under p None (first ∷ lines ++ last ∷ []) saids after
    → (text : List ℕ) × (faults : ℕ) × (standing : Standing) × Answers (with_address ue p) at_start lines text faults standing
    × (texts_of saids ≡ ((done_text ++ 10 ∷ []) ++ text) ++ (done_text ++ 10 ∷ [])) × (faults_of saids ≡ faults) × (after ≡ None)
