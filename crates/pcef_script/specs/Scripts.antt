-- What is written for a script (own choice).
use Rattle.std.specs.Prelude.{◌≡◌, ◌⊎◌, ◌<◌, ◌≤◌, ◌+◌, ◌==◌, ℕ, List, [], ◌∷◌, ◌++◌, length, take, Option, Some, None, Result, Ok, Err, if◌then◌else◌}
use Rattle.std.specs.Io.KnownBytes.{Appends, IsAtEnd}
use Rattle.pcef_model.specs.Setting.{Setting}
use Rattle.pcef_model.specs.Refusals.{first_of, open_faults}
use Rattle.pcef_script.specs.declared.fault.ScriptFault.{ScriptFault}
use Rattle.pcef_script.specs.declared.fault.ScriptFault.TheVariants as fault
use Rattle.pcef_script.specs.ScriptAnswers.{Answers, answered}
use Rattle.pcef_world.specs.Steps.{Standing, at_start}
use Rattle.pcef_script.specs.ScriptLines.{script_most}
use Rattle.pcef_base.specs.Writing.{AppendsFront}

-- ---- lines
-- a byte before lines, and what follows the last of them
abbrev pub joined : ℕ → List (List ℕ) → List ℕ → List (List ℕ) × List ℕ
joined b [] last = ([], b ∷ last)
joined b (line ∷ lines) last = ((b ∷ line) ∷ lines, last)

-- the lines that a line feed ends, and the bytes that follow the last line feed
unfoldable pub cut : List ℕ → List (List ℕ) × List ℕ
cut [] = ([], [])
cut (b ∷ input) = if b == 10 then ([] ∷ (cut input).0, (cut input).1) else joined b (cut input).0 (cut input).1

abbrev pub ended_lines : List ℕ → List (List ℕ)
ended_lines input = (cut input).0

abbrev pub last_line : List ℕ → List ℕ
last_line input = (cut input).1

-- the end of the input ends the last line
abbrev pub all_lines : List ℕ → List (List ℕ)
all_lines input = ended_lines input ++ last_line input ∷ []

-- the first line, and what follows the line feed that ends it
abbrev pub IsFirstLine : List ℕ → List ℕ → Option (List ℕ) → Type 0
IsFirstLine input first None = all_lines input ≡ first ∷ []
IsFirstLine input first (Some rest) = (all_lines input ≡ first ∷ all_lines rest) × (length rest + 1 ≤ length input)

-- ---- scripts
-- the answers to these lines, from the start of a session on, were written
abbrev pub Wrote : Setting → List (List ℕ) → ℕ → Option (List ℕ) → Option (List ℕ) → Type 0
Wrote p lines faults old new =
    (text : List ℕ) × (after : Standing) × Answers p at_start (answered lines) text faults after × Appends old new text

-- some of their bytes, from the first on
abbrev pub WroteFront : Setting → List (List ℕ) → Option (List ℕ) → Option (List ℕ) → Type 0
WroteFront p lines old new =
    (text : List ℕ) × (faults : ℕ) × (after : Standing) × Answers p at_start (answered lines) text faults after × AppendsFront old new text

-- What was written for the input that was read. At its end the answers to all lines are, and the lines at
-- fault are counted. Where the reader fails, or the script is too long, the answers to the whole lines
-- before are; where memory runs out, those to the lines before that one; where the writer fails, some of
-- the bytes of the answers up to a line that ended. Without a session nothing is read or written.
abbrev pub Ran : Setting → Result ℕ ScriptFault → Option (List ℕ) → Option (List ℕ) → Option (List ℕ) → List ℕ → Type 0
Ran p (Ok faults) old new left input = IsAtEnd left × Wrote p (all_lines input) faults old new
Ran p (Err fault.Read) old new left input = (faults : ℕ) × Wrote p (ended_lines input) faults old new
Ran p (Err fault.TooMuch) old new left input =
    (script_most < length input) × (faults : ℕ) × Wrote p (ended_lines (take script_most input)) faults old new
Ran p (Err fault.NoMemory) old new left input =
    (front rest : List ℕ) × (faults : ℕ) × (input ≡ front ++ rest) × Wrote p (ended_lines front) faults old new
Ran p (Err fault.Write) old new left input =
    ((front rest : List ℕ) × (input ≡ front ++ 10 ∷ rest) × WroteFront p (all_lines front) old new)
    ⊎ (IsAtEnd left × WroteFront p (all_lines input) old new)
Ran p (Err (fault.Profile f)) old new left input = (input ≡ []) × Appends old new []

-- whether the session could be opened
abbrev pub Opened : {A : Type 0} → Setting → Result A ScriptFault → Type 0
Opened p (Err (fault.Profile f)) = first_of (open_faults p) ≡ Some f
Opened p (Err fault.NoMemory) = Unit {0}
Opened p _ = first_of (open_faults p) ≡ None
