-- Rows as they are kept, and what they stand for.
use Rattle.std.specs.Prelude.{ℕ, ◌<◌, ◌==◌, List, [], filter, get_or, map}
use Rattle.std.specs.List.{AllByRecursion}
use Rattle.pcef_model.specs.declared.row.Row.{Row}
use Rattle.pcef_model.specs.declared.verdict.Verdict.{Verdict}
use Rattle.pcef_model.specs.declared.verdict.Verdict.TheVariants as verdict
use Rattle.pcef_journaled.specs.declared.kept_row.KeptRow.{KeptRow}
use Rattle.pcef_journaled.specs.declared.kept_row.KeptVerdict.{KeptVerdict}
use Rattle.pcef_journaled.specs.declared.kept_row.KeptVerdict.TheVariants.{Stray, Unmatched, Gated, Passed}

abbrev pub kept_name : List (List ℕ) → ℕ → List ℕ
kept_name names place = get_or names place []

-- the verdict, where the name of the rule stands at this place
abbrev pub verdict_of_kept : List (List ℕ) → ℕ → KeptVerdict → Verdict
verdict_of_kept names place Stray = verdict.Stray
verdict_of_kept names place Unmatched = verdict.Unmatched
verdict_of_kept names place Gated = verdict.Gated (kept_name names place)
verdict_of_kept names place (Passed bearer) = verdict.Passed (kept_name names place) bearer

abbrev pub row_of_kept : List (List ℕ) → KeptRow → Row
row_of_kept names r = record { worker = r.worker; seq = r.seq; generation = r.generation; header = r.header; verdict = verdict_of_kept names r.rule r.verdict }

abbrev pub rows_of : List (List ℕ) → List KeptRow → List Row
rows_of names kept = map (row_of_kept names) kept

-- where a verdict names a rule, the place of the name is below `count`
abbrev pub HasPlaceBelow : ℕ → ℕ → KeptVerdict → Type 0
HasPlaceBelow count place Stray = Unit {0}
HasPlaceBelow count place Unmatched = Unit {0}
HasPlaceBelow count place Gated = place < count
HasPlaceBelow count place (Passed bearer) = place < count

abbrev pub ArePlaced : ℕ → List KeptRow → Type 0
ArePlaced count kept = AllByRecursion (λ r. HasPlaceBelow count r.rule r.verdict) kept

-- the rows of a worker
abbrev pub lane_in : ℕ → List (List ℕ) → List KeptRow → List Row
lane_in worker names kept = filter (λ r. r.worker == worker) (rows_of names kept)
