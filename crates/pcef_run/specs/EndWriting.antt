-- What is said of an end (own choice).
use Rattle.std.specs.Prelude.{ℕ, ◌≡◌, List, [], ◌++◌, Option}
use Rattle.std.specs.Io.KnownBytes.{Appends}
use Rattle.pcef_script.specs.ScriptLines.{AppendsFront}
use Rattle.pcef_run.specs.declared.end.End.{End}
use Rattle.pcef_run.specs.Ends.{end_reason, end_text, line_reason}

-- The line of the end, what is wrong with the line that doesn't fit, and then an explanation for people; nothing of an end
-- without a line. Of all that only a front where the writer fails.
abbrev pub WritesEnd : End → Option (List ℕ) → Option (List ℕ) → Type 0
WritesEnd end old new =
    (more : List ℕ) × (end_text end ≡ [] → more ≡ []) × AppendsFront old new (end_text end ++ (end_reason end ++ more))

-- ---- for private clauses
-- that below the line
abbrev pub WritesMore : End → Option (List ℕ) → Option (List ℕ) → Type 0
WritesMore end old new = (more : List ℕ) × AppendsFront old new (end_reason end ++ more)

-- the same without the program's name before it
abbrev pub WritesReason : End → Option (List ℕ) → Option (List ℕ) → Type 0
WritesReason end old new = (more : List ℕ) × AppendsFront old new (line_reason end ++ more)

abbrev pub AppendsSome : Option (List ℕ) → Option (List ℕ) → Type 0
AppendsSome old new = (more : List ℕ) × Appends old new more
