-- Each name is one thread's, and so is each line (own choice).
use Rattle.std.specs.Prelude.{ℕ, ◌≡◌, ◌≢◌, ◌==◌, ◌<◌, Bool, List, [], filter, true}
use Rattle.std.specs.declared.hash.RandomState.{RandomState}
use Rattle.pcef_line.specs.LineValues.{is_name}
use Rattle.pcef_script.specs.ScriptAnswers.{answered}
use Rattle.pcef_script.specs.Scripts.{all_lines}
use Rattle.pcef_sessions.specs.Addressed.{lines_of}
use Rattle.pcef_shards.specs.Parts.{part_of}
use Rattle.pcef_shards.specs.Picks.{thread_of, thread_of_name}

-- the lines of a name that its thread is led are all lines of that name, in order
abbrev pub NamesHaveThreads : Type 0
NamesHaveThreads = (keys : RandomState) (threads : ℕ) (input name : List ℕ) → is_name name ≡ true
    → lines_of name (answered (all_lines (part_of (thread_of keys threads) (thread_of_name keys threads name) input))) ≡ lines_of name (answered (all_lines input))

-- and no other thread is led one
abbrev pub OthersHaveNone : Type 0
OthersHaveNone = (keys : RandomState) (threads other : ℕ) (input name : List ℕ) → is_name name ≡ true → other ≢ thread_of_name keys threads name
    → lines_of name (answered (all_lines (part_of (thread_of keys threads) other input))) ≡ []

abbrev pub goes_to : RandomState → ℕ → ℕ → List ℕ → Bool
goes_to keys threads t line = thread_of keys threads line == t

-- Each line that is answered, also one without a name, goes to one of the threads. The part of a thread has the lines
-- that go to it, in their order: no line is in two parts, and none is in no part.
abbrev pub LinesHaveThreads : Type 0
LinesHaveThreads = (keys : RandomState) (threads : ℕ) (line : List ℕ) → 0 < threads → thread_of keys threads line < threads

abbrev pub PartsHaveTheirLines : Type 0
PartsHaveTheirLines = (keys : RandomState) (threads t : ℕ) (input : List ℕ)
    → answered (all_lines (part_of (thread_of keys threads) t input)) ≡ filter (goes_to keys threads t) (answered (all_lines input))
