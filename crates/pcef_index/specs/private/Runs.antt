-- Of which rules the lines of a sieve are.
use Rattle.std.specs.Prelude.{ℕ, ◌≡◌, ◌≤◌, List, Option, Some, get_or, slice_get, option_and_then}
use Rattle.pcef_index.specs.declared.lines.Line.{Line}
use Rattle.pcef_index.specs.declared.runs.Runs.{Runs}
use Rattle.pcef_index.specs.private.Words.{place_at}

-- the number of the rule of the line whose number stands at place j
abbrev pub rule_at : List Line → List ℕ → ℕ → Option ℕ
rule_at lines numbers j = option_and_then (place_at lines) (slice_get numbers j)

-- for each line, from one on, a number that no rule of it, or of lines behind it, is below
abbrev pub AreLeasts : ℕ → List Line → List ℕ → List ℕ → Type 0
AreLeasts from lines numbers leasts =
    (i j k : ℕ) → from ≤ i → i ≤ j → rule_at lines numbers j ≡ Some k → get_or leasts i 0 ≤ k

pub record AreRuns (lines : List Line) (numbers : List ℕ) (r : Runs) : Type 0 where
  pub leasts : AreLeasts 0 lines numbers r.leasts.items
