-- The names of verdicts in answers (own choice).
use Rattle.std.specs.Prelude.{ℕ, List, codes}
use Rattle.pcef_page.specs.declared.figures.Verdict.{Verdict}
use Rattle.pcef_page.specs.declared.figures.Verdict.TheVariants.{Passed, Gated, Unmatched, Stray}

abbrev pub verdict_name : Verdict → List ℕ
verdict_name Passed = codes "Passed"
verdict_name Gated = codes "Gated"
verdict_name Unmatched = codes "Unmatched"
verdict_name Stray = codes "Stray"
