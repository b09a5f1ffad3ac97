-- What is said of a run (own choice). Each line stands after a text that stands before it.
use Rattle.std.specs.Prelude.{ℕ, ◌-◌, List, [], ◌∷◌, ◌++◌, codes, decimal}
use Rattle.pcef_lock.specs.declared.key_totals.KeyTotal.{KeyTotal}
use Rattle.pcef_run.specs.Runs.{accepted_of, command_count}
use Rattle.pcef_run.specs.declared.run.Ran.{Ran}
use Rattle.pcef_run.specs.declared.taken.Counts.{Counts}

-- a word and a number, in decimal digits
abbrev pub with_number : List ℕ → List ℕ → ℕ → List ℕ
with_number text word number = (text ++ word) ++ decimal number

abbrev pub with_end : List ℕ → List ℕ
with_end text = text ++ 10 ∷ []

abbrev pub and_rows : List ℕ → Ran → List ℕ
and_rows text ran =
    with_end (with_number (with_number (with_number text (codes "rows ") ran.ended.totals.rows)
    (codes " abandoned ") ran.ended.totals.abandoned) (codes " dropped ") ran.ended.dropped)

-- how many commands were accepted, and how many weren't
abbrev pub with_commands : List ℕ → Ran → List ℕ
with_commands text ran =
    with_end (with_number (with_number text (codes "commands ") (accepted_of ran))
    (codes " refused ") (command_count ran - accepted_of ran))

abbrev pub and_reports : List ℕ → Counts → List ℕ
and_reports text taken =
    with_end (with_number (with_number (with_number text (codes "reports usage ") taken.usage)
    (codes " access ") taken.access) (codes " inactive ") taken.inactive)

abbrev pub with_key : List ℕ → KeyTotal → List ℕ
with_key text total =
    with_end (with_number (with_number (with_number ((text ++ codes "key ") ++ total.key) (codes " counted ") total.counted)
    (codes " reported ") total.reported) (codes " unreported ") total.unreported)

-- a line for each key
unfoldable pub with_keys : List ℕ → List KeyTotal → List ℕ
with_keys text [] = text
with_keys text (first ∷ totals) = with_keys (with_key text first) totals

abbrev pub summary_text : Ran → Counts → List ℕ
summary_text ran taken = with_keys (and_reports (with_commands (and_rows [] ran) ran) taken) ran.ended.totals.keys
