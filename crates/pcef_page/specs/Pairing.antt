-- Which line of a script has which answer (own choice).
use Rattle.std.specs.Prelude.{ℕ, ◌==◌, ◌&&◌, ◌||◌, Bool, not, nat_le, is_some, List, codes, length, map, filter, Option, Some, None, if◌then◌else◌}
use Rattle.std.specs.List.{enumerate_from, list_all, slice_split, zip}
use Rattle.std.specs.Str.{is_utf8}
use Rattle.serde_json.specs.Data.{Data, null}
use Rattle.serde_json.specs.Find.{as_object, get}
use Rattle.serde_json.specs.Read.{read}
use Rattle.pcef_page.specs.Usages.{refusal_shown}

-- ---- lines
-- the most octets of a line that may be blank
abbrev pub blank_most : ℕ
blank_most = 262144

abbrev pub is_padding : ℕ → Bool
is_padding b = ((b == 32) || (b == 9)) || (b == 13)

-- a line that gets no answer: of spaces, tabs and CR alone, and within the limit, for a longer one is at fault
abbrev pub is_unanswered : List ℕ → Bool
is_unanswered line = nat_le (length line) blank_most && list_all is_padding line

-- what stands between line feeds, before the first and behind the last
abbrev pub split_lines : List ℕ → List (List ℕ)
split_lines octets = slice_split (λ b. b == 10) octets

-- the lines that aren't blank, each behind its number; the first line has this one
abbrev pub filled_from : ℕ → List (List ℕ) → List (ℕ × List ℕ)
filled_from number lines = filter (λ l. not (is_unanswered l.1)) (enumerate_from number lines)

abbrev pub filled : List ℕ → List (ℕ × List ℕ)
filled octets = filled_from 1 (split_lines octets)

-- ---- lines with their answers
-- the JSON value that octets are, if they are one
abbrev pub json_of : List ℕ → Option Data
json_of octets = if is_utf8 octets then read octets else None

abbrev pub or_null : Option Data → Data
or_null None = null
or_null (Some d) = d

-- a line with its answer; what should be an answer and is no JSON is `null`
pub record Exchange : Type 0 where
  pub number : ℕ
  pub line : Option Data
  pub answer : Data

abbrev pub exchange_of : (ℕ × List ℕ) × (ℕ × List ℕ) → Exchange
exchange_of p = record { number = p.0.0; line = json_of p.0.1; answer = or_null (json_of p.1.1) }

-- the nth line of the script that isn't blank has the nth answer
abbrev pub exchanges : List ℕ → List ℕ → List Exchange
exchanges script answers = map exchange_of (zip (filled script) (filled answers))

-- the line is JSON, unless its answer says that it was refused or at fault
abbrev pub has_value : ℕ → Option Data → Data → Bool
has_value number line answer = is_some (refusal_shown number answer) || is_some line

-- and the answer is an object, and no line of a script
abbrev pub is_answer : Data → Bool
is_answer d = is_some (as_object d) && not (is_some (get (codes "do") d))

abbrev pub is_answered : Exchange → Bool
is_answered x = is_answer x.answer && has_value x.number x.line x.answer
