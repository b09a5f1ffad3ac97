-- Reports that follow one another.
use Rattle.std.specs.Prelude.{ℕ, ◌≡◌, ◌+◌, List, [], ◌∷◌}
use Rattle.pcef_model.specs.declared.report.Report.{Report}

-- they are numbered from this number on, without a gap
unfoldable pub AreNumbered : ℕ → List Report → Type 0
AreNumbered number [] = Unit {0}
AreNumbered number (r ∷ rs) = (r.number ≡ number) × AreNumbered (number + 1) rs
