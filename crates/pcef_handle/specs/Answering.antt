-- What is written to a caller's buffer (own choice).
use Rattle.std.specs.Prelude.{ℕ, ◌≡◌, List, length, min, take, Option, Some, None, Result, Ok, Err, string_bytes}
use Rattle.pcef_script.specs.LoneLines.{AnswersAlone, LacksAlone}
use Rattle.pcef_script.specs.declared.step.LineAnswer.{LineAnswer}
use Rattle.pcef_handle.specs.declared.held.Handle.{Handle}
use Rattle.pcef_handle.specs.declared.held.OpenSession.{OpenSession}
use Rattle.pcef_handle.specs.declared.line.CallRefusal.{CallRefusal}
use Rattle.pcef_handle.specs.declared.line.CallRefusal.TheVariants.{NoMemory, NoSession}

-- as much of a text as fits stands at the front of a buffer, whose length stays, and the length of the text is
-- returned
abbrev pub CopiesFront : List ℕ → List ℕ → List ℕ → ℕ → Type 0
CopiesFront text before after octets =
    (octets ≡ length text) × (length after ≡ length before)
    × (take (min (length text) (length before)) after ≡ take (min (length text) (length before)) text)

-- the same of an answer; where there is none, nothing is written, and 0 is returned
abbrev pub IsPut : Option LineAnswer → List ℕ → List ℕ → ℕ → Type 0
IsPut None before after octets = (octets ≡ 0) × (after ≡ before)
IsPut (Some a) before after octets = CopiesFront (string_bytes a.text) before after octets

-- what is fixed for a session stays, its number too, and no more of its reports are forgotten
abbrev pub StaysOpen : OpenSession → OpenSession → Type 0
StaysOpen old new =
    (new.world.session.setting ≡ old.world.session.setting)
    × (new.number ≡ old.number)
    × (new.world.session.forgotten ≡ old.world.session.forgotten)

-- A line is answered as in a script, into a buffer. When out of memory nothing is written, and the session and its
-- workers are as before the line, or as after it.
abbrev pub AnswersInto : OpenSession → List ℕ → List ℕ → Result ℕ CallRefusal → OpenSession → List ℕ → Type 0
AnswersInto old line before (Ok octets) new after =
    StaysOpen old new × ((a : Option LineAnswer) × AnswersAlone line old.world a new.world × IsPut a before after octets)
AnswersInto old line before (Err NoMemory) new after = StaysOpen old new × LacksAlone line old.world new.world × (after ≡ before)
AnswersInto old line before (Err other) new after = ⊥

-- in the session of a handle, which stays open; this refusal, where there is none
abbrev pub InOpenSession : Option OpenSession → Option OpenSession → (OpenSession → OpenSession → Type 0) → Type 0 → Type 0
InOpenSession (Some s) (Some t) P none = P s t
InOpenSession None None P none = none
InOpenSession s t P none = ⊥

abbrev pub AnswersHandle : Handle → List ℕ → List ℕ → Result ℕ CallRefusal → Handle → List ℕ → Type 0
AnswersHandle old line before result new after =
    InOpenSession old.session new.session (λ s t. AnswersInto s line before result t after) ((result ≡ Err NoSession) × (after ≡ before))
