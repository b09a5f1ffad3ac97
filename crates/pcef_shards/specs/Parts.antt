-- What each thread is led (own choice).
use Rattle.std.specs.Prelude.{ℕ, ◌==◌, List, [], ◌∷◌, ◌++◌, if◌then◌else◌}
use Rattle.pcef_script.specs.Scripts.{ended_lines, last_line}
use Rattle.pcef_shards.specs.Picks.{is_settled}

-- of lines that ended, those that go to a thread, in order
abbrev pub lines_part : (List ℕ → ℕ) → ℕ → List (List ℕ) → List ℕ
lines_part pick t [] = []
lines_part pick t (line ∷ lines) = (if pick line == t then line ++ 10 ∷ [] else []) ++ lines_part pick t lines

-- the line that no line feed ends
abbrev pub last_part : (List ℕ → ℕ) → ℕ → List ℕ → List ℕ
last_part pick t line = if pick line == t then line else []

-- the part of a thread: of the lines of an input, those that go to it, in order
abbrev pub part_of : (List ℕ → ℕ) → ℕ → List ℕ → List ℕ
part_of pick t input = lines_part pick t (ended_lines input) ++ last_part pick t (last_line input)

-- and while the input comes: nothing yet of a line whose thread isn't settled
abbrev pub settled_part : (List ℕ → ℕ) → ℕ → List ℕ → List ℕ
settled_part pick t line = if is_settled line then last_part pick t line else []

abbrev pub part_so_far : (List ℕ → ℕ) → ℕ → List ℕ → List ℕ
part_so_far pick t input = lines_part pick t (ended_lines input) ++ settled_part pick t (last_line input)
