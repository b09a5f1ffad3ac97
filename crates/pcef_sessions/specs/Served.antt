-- What is written for many sessions' lines (own choice).
use Rattle.std.specs.Prelude.{ℕ, ◌≡◌, ◌⊎◌, All, Bool, List, [], ◌∷◌, ◌++◌, map, Option, Some, None, Result, Ok, Err, if◌then◌else◌}
use Rattle.std.specs.Str.{bytes_eq}
use Rattle.std.specs.List.{list_any}
use Rattle.std.specs.Io.KnownBytes.{Appends, Consumes, IsAtEnd}
use Rattle.pcef_model.specs.Setting.{Setting}
use Rattle.pcef_script.specs.declared.fault.ScriptFault.{ScriptFault}
use Rattle.pcef_script.specs.declared.fault.ScriptFault.TheVariants as fault
use Rattle.pcef_script.specs.ScriptAnswers.{answered}
use Rattle.pcef_script.specs.Scripts.{all_lines, ended_lines}
use Rattle.pcef_base.specs.Writing.{AppendsFront}
use Rattle.pcef_sessions.specs.Addressed.{lines_of, addressed_name, no_name}
use Rattle.pcef_sessions.specs.Sayings.{Said, bad_name}
use Rattle.pcef_sessions.specs.Under.{Session, UnderName}

-- ---- one name
-- the answers under a name, in order
abbrev pub if_under : List ℕ → Option (List ℕ) → Said → List Said
if_under name None said = []
if_under name (Some other) said = if bytes_eq other name then said ∷ [] else []

abbrev pub said_under : List ℕ → List Said → List Said
said_under name [] = []
said_under name (said ∷ more) = if_under name said.name said ++ said_under name more

-- the answers to the lines for one name, one to each, and what stands under it then
abbrev pub Under : Setting → Option Session → List (List ℕ) → List Said → Option Session → Type 0
Under p there [] saids after = (saids ≡ []) × (after ≡ there)
Under p there (line ∷ lines) saids after =
    (first : Said) × (rest : List Said) × (between : Option Session)
    × UnderName p there line first.text first.at_fault between × Under p between lines rest after × (saids ≡ first ∷ rest)

-- ---- all names
-- The answers to lines, one to each and in their order. Under each name stand those that its lines get, from no session
-- on; what has no name gets one text.
pub record AreSaid (p : Setting) (lines : List (List ℕ)) (saids : List Said) (after : List ℕ → Option Session) : Type 0 where
  pub names : map (λ (said : Said). said.name) saids ≡ map addressed_name lines
  pub nameless : All (λ (said : Said). said.name ≡ None → said ≡ bad_name) saids
  pub each : (name : List ℕ) → Under p None (lines_of name lines) (said_under name saids) (after name)

-- a name, or a dash, a space, the text and a line feed
abbrev pub name_bytes : Option (List ℕ) → List ℕ
name_bytes None = no_name
name_bytes (Some name) = name

abbrev pub said_bytes : Said → List ℕ
said_bytes said = (name_bytes said.name ++ 32 ∷ []) ++ (said.text ++ 10 ∷ [])

abbrev pub all_bytes : List Said → List ℕ
all_bytes [] = []
all_bytes (said ∷ more) = said_bytes said ++ all_bytes more

-- What stands before an answer says which session's it is, or that it is none's: before the answers to two lines stands
-- the same only where they are for one session, or both for none.
abbrev pub NamesAreToldApart : Type 0
NamesAreToldApart = (line other : List ℕ) → name_bytes (addressed_name line) ≡ name_bytes (addressed_name other) → addressed_name line ≡ addressed_name other

abbrev pub any_fault : List Said → Bool
any_fault saids = list_any (λ (said : Said). said.at_fault) saids

-- ---- runs
-- the answers to these lines were written; or some of their bytes, from the first on
abbrev pub WroteNamed : Setting → List (List ℕ) → Bool → Option (List ℕ) → Option (List ℕ) → Type 0
WroteNamed p lines any old new =
    (saids : List Said) × (after : List ℕ → Option Session) × AreSaid p lines saids after × (any ≡ any_fault saids) × Appends old new (all_bytes saids)

abbrev pub WroteNamedFront : Setting → List (List ℕ) → Option (List ℕ) → Option (List ℕ) → Type 0
WroteNamedFront p lines old new =
    (saids : List Said) × (after : List ℕ → Option Session) × AreSaid p lines saids after × AppendsFront old new (all_bytes saids)

-- What was written for the input that was read. At its end it is the answers to all lines, and the result says whether
-- one is at fault. Where the reader fails, it is the answers to the whole lines before; where memory runs out, those to
-- the lines before that one; where the writer fails, some of the bytes of the answers up to a line that ended. Where no
-- session of the profile can be opened, nothing is read or written.
abbrev pub Served : Setting → Result Bool ScriptFault → Option (List ℕ) → Option (List ℕ) → Option (List ℕ) → List ℕ → Type 0
Served p (Ok any) old new left input = IsAtEnd left × WroteNamed p (answered (all_lines input)) any old new
Served p (Err fault.Read) old new left input = (any : Bool) × WroteNamed p (answered (ended_lines input)) any old new
Served p (Err fault.NoMemory) old new left input =
    (front rest : List ℕ) × (any : Bool) × (input ≡ front ++ rest) × WroteNamed p (answered (ended_lines front)) any old new
Served p (Err fault.Write) old new left input =
    ((front rest : List ℕ) × (input ≡ front ++ rest) × WroteNamedFront p (answered (ended_lines front)) old new)
    ⊎ (IsAtEnd left × WroteNamedFront p (answered (all_lines input)) old new)
Served p (Err (fault.Profile f)) old new left input = (input ≡ []) × Appends old new []
Served p (Err fault.TooMuch) old new left input = ⊥

-- from a reader with `before` still to come and a writer with `old` written, to `left` and `new`
abbrev pub Serves : Setting → Result Bool ScriptFault → Option (List ℕ) → Option (List ℕ) → Option (List ℕ) → Option (List ℕ) → Type 0
Serves p result before left old new =
    (input : List ℕ) × Consumes before left input × Served p result old new left input
