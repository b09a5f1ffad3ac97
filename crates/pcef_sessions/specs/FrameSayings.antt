-- The answer to a frame, whatever session it is for (own choice).
use Rattle.std.specs.Prelude.{ℕ, ◌≡◌, List, true, Option, None, Ok, Err}
use Rattle.pcef_model.specs.Setting.{Setting}
use Rattle.pcef_sessions.specs.declared.frame_fault.FrameFault.{FrameFault}
use Rattle.pcef_sessions.specs.declared.saying.NamedAnswer.{NamedAnswer}
use Rattle.pcef_sessions.specs.declared.sessions.Sessions.{Sessions}
use Rattle.pcef_sessions.specs.Addressed.{addressed}
use Rattle.pcef_sessions.specs.Frames.{Meaning, frame_fault_text, meaning}
use Rattle.pcef_sessions.specs.Sayings.{LacksTo, Said, SaysTo, said_of}
use Rattle.pcef_sessions.specs.Standing.{fixed, held}
use Rattle.pcef_sessions.specs.Under.{Session}

-- the answer to a malformed frame, which is under no name
abbrev pub malformed : FrameFault → Said
malformed why = record { name = None; text = frame_fault_text why; at_fault = true }

-- a frame has the answer of the line that it means, and does what the line does; a malformed one changes nothing
abbrev pub SaysToFrame : Setting → (List ℕ → Option Session) → Meaning → Said → (List ℕ → Option Session) → Type 0
SaysToFrame p old (Ok line) said new = SaysTo p old (addressed line) said new
SaysToFrame p old (Err why) said new = (said ≡ malformed why) × ((any : List ℕ) → new any ≡ old any)

abbrev pub AnswersFrame : Sessions → List ℕ → NamedAnswer → Sessions → Type 0
AnswersFrame old frame t new = SaysToFrame (fixed old) (held old) (meaning frame) (said_of t) (held new)

-- memory was lacking for a frame: it is as where it was lacking for the line
abbrev pub LacksToFrame : Setting → (List ℕ → Option Session) → Meaning → (List ℕ → Option Session) → Type 0
LacksToFrame p old (Ok line) new = LacksTo p old (addressed line) new
LacksToFrame p old (Err why) new = (any : List ℕ) → new any ≡ old any

abbrev pub LacksForFrame : Sessions → List ℕ → Sessions → Type 0
LacksForFrame old frame new = LacksToFrame (fixed old) (held old) (meaning frame) (held new)
