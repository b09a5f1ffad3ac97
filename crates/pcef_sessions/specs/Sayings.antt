-- The answer to a line, whatever session it is for (own choice).
use Rattle.std.specs.Prelude.{ℕ, ◌≡◌, ◌≢◌, List, [], ◌∷◌, ◌++◌, Bool, true, Option, Some, None, string_bytes}
use Rattle.pcef_model.specs.Setting.{Setting}
use Rattle.pcef_sessions.specs.declared.saying.NamedAnswer.{NamedAnswer}
use Rattle.pcef_sessions.specs.declared.sessions.Sessions.{Sessions}
use Rattle.pcef_sessions.specs.Addressed.{addressed}
use Rattle.pcef_sessions.specs.Standing.{fixed, held}
use Rattle.pcef_sessions.specs.Under.{LacksUnder, Session, UnderName, bad_name_text}

-- an answer, under a name or under none, and whether the line is at fault
pub record Said : Type 0 where
  pub name : Option (List ℕ)
  pub text : List ℕ
  pub at_fault : Bool

abbrev pub said_of : NamedAnswer → Said
said_of t = record { name = t.name; text = string_bytes t.answer.text; at_fault = t.answer.is_fault }

-- the answer to a line without name, space or rest
abbrev pub bad_name : Said
bad_name = record { name = None; text = bad_name_text; at_fault = true }

-- the answer to a line of the sessions that stand so, and how they stand then: a line changes nothing but the session
-- of its name
abbrev pub SaysTo : Setting → (List ℕ → Option Session) → Option (List ℕ × List ℕ) → Said → (List ℕ → Option Session) → Type 0
SaysTo p old None said new = (said ≡ bad_name) × ((any : List ℕ) → new any ≡ old any)
SaysTo p old (Some line) said new =
    (said.name ≡ Some line.0) × UnderName p (old line.0) line.1 said.text said.at_fault (new line.0)
    × ((other : List ℕ) → other ≢ line.0 → new other ≡ old other)

abbrev pub AnswersNamedLine : Sessions → List ℕ → NamedAnswer → Sessions → Type 0
AnswersNamedLine old line t new = SaysTo (fixed old) (held old) (addressed line) (said_of t) (held new)

-- memory was lacking for a line: all names but its own keep what stands under them
abbrev pub LacksTo : Setting → (List ℕ → Option Session) → Option (List ℕ × List ℕ) → (List ℕ → Option Session) → Type 0
LacksTo p old None new = (any : List ℕ) → new any ≡ old any
LacksTo p old (Some line) new =
    LacksUnder p (old line.0) line.1 (new line.0) × ((other : List ℕ) → other ≢ line.0 → new other ≡ old other)

abbrev pub LacksForNamedLine : Sessions → List ℕ → Sessions → Type 0
LacksForNamedLine old line new = LacksTo (fixed old) (held old) (addressed line) (held new)
