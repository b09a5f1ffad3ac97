-- Names that are kept once each.
use Rattle.std.specs.Prelude.{◌≡◌, ℕ, List, [], ◌∷◌, ◌++◌, if◌then◌else◌}
use Rattle.std.specs.List.{list_any}
use Rattle.pcef_model.specs.Setting.{same_name}

-- the names, each at its place, and how many more there is memory for
pub record KeptNames : Type 0 where
  pub names : List (List ℕ)
  pub room : ℕ

-- the names with this one, which stands behind the others where it is new
abbrev pub with_name : List ℕ → List (List ℕ) → List (List ℕ)
with_name name names = if list_any (same_name name) names then names else names ++ name ∷ []

-- new names stand behind the old ones
abbrev pub NamesGoOn : List (List ℕ) → List (List ℕ) → Type 0
NamesGoOn old new = (more : List (List ℕ)) × (new ≡ old ++ more)
