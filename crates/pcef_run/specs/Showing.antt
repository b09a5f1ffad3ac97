-- The words that ask for a text about the program itself (own choice).
use Rattle.std.specs.Prelude.{ℕ, ◌&&◌, ◌||◌, Bool, List, [], ◌∷◌, Vec, codes, Option, Some, None, if◌then◌else◌}
use Rattle.std.specs.Str.{bytes_eq}
use Rattle.std.specs.declared.alloc.Global.{Global}
use Rattle.pcef_run.specs.declared.end.End.TheVariants as end
use Rattle.pcef_run.specs.declared.shown.Shown.{Shown}
use Rattle.pcef_run.specs.declared.shown.Shown.TheVariants as shown
use Rattle.pcef_run.specs.Ends.{end_text}

abbrev pub is_help_word : List ℕ → Bool
is_help_word word = bytes_eq word (codes "--help") || bytes_eq word (codes "-h")

abbrev pub is_version_word : List ℕ → Bool
is_version_word word = bytes_eq word (codes "--version") || bytes_eq word (codes "-V")

abbrev pub is_command_word : List ℕ → Bool
is_command_word word = bytes_eq word (codes "script") || (bytes_eq word (codes "run") || bytes_eq word (codes "pool"))

-- behind a first word that asks for nothing itself, a word asks for help where the first is a command
abbrev pub shown_behind : List ℕ → List (Vec ℕ Global) → Option Shown
shown_behind first [] = None
shown_behind first (word ∷ words) = if is_command_word first && is_help_word word.items then Some shown.Help else None

-- the text that the words ask for
abbrev pub shown_by : List (Vec ℕ Global) → Option Shown
shown_by [] = None
shown_by (word ∷ words) =
    if is_help_word word.items then Some shown.Help else (if is_version_word word.items then Some shown.Version else shown_behind word.items words)

-- its first line
abbrev pub shown_line : Shown → List ℕ
shown_line shown.Help = end_text end.Usage
shown_line shown.Version = codes "pcef 1.0.0\n"
