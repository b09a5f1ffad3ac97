-- Which session a line is for (own choice).
use Rattle.std.specs.Prelude.{ℕ, ◌==◌, ◌&&◌, not, List, [], ◌∷◌, ◌++◌, Bool, Option, Some, None, option_map, option_and_then, if◌then◌else◌}
use Rattle.std.specs.Str.{bytes_eq}
use Rattle.pcef_line.specs.LineValues.{is_name}
use Rattle.pcef_script.specs.ScriptLines.{is_blank_line}

-- a line at its first space: what stands before it, and what behind it
abbrev pub at_space : List ℕ → Option (List ℕ × List ℕ)
at_space [] = None
at_space (b ∷ line) = if b == 32 then Some ([], line) else option_map (λ p. (b ∷ p.0, p.1)) (at_space line)

-- what stands before an answer that has no name: "-"
abbrev pub no_name : List ℕ
no_name = 45 ∷ []

-- a session's name is 1 to 64 octets from 0x21 to 0x7E, and isn't taken for the lack of one
abbrev pub is_session_name : List ℕ → Bool
is_session_name name = is_name name && not (bytes_eq name no_name)

-- a line behind a session's name isn't blank
abbrev pub for_session : List ℕ × List ℕ → Option (List ℕ × List ℕ)
for_session p = if is_session_name p.0 && not (is_blank_line p.1) then Some p else None

-- the session that a line is for, by its name, and the line that the session gets; none where one of them is missing
abbrev pub addressed : List ℕ → Option (List ℕ × List ℕ)
addressed line = option_and_then for_session (at_space line)

abbrev pub addressed_name : List ℕ → Option (List ℕ)
addressed_name line = option_map (λ p. p.0) (addressed line)

-- what a line says to the session of a name
abbrev pub said_to : List ℕ → Option (List ℕ × List ℕ) → List (List ℕ)
said_to name None = []
said_to name (Some p) = if bytes_eq p.0 name then p.1 ∷ [] else []

-- the lines of the session of a name, in order
abbrev pub lines_of : List ℕ → List (List ℕ) → List (List ℕ)
lines_of name [] = []
lines_of name (line ∷ lines) = said_to name (addressed line) ++ lines_of name lines
