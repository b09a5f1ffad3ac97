-- Lists of things that have a name, which `name_of` gives.
use Rattle.std.specs.Prelude.{ℕ, Bool, not, List, [], ◌∷◌, filter, if◌then◌else◌}
use Rattle.pcef_model.specs.Setting.{same_name}

abbrev pub has_name : {X : Type 0} → (X → List ℕ) → List ℕ → X → Bool
has_name name_of name x = same_name (name_of x) name

abbrev pub without_name : {X : Type 0} → (X → List ℕ) → List ℕ → List X → List X
without_name name_of name xs = filter (λ x. not (has_name name_of name x)) xs

-- the list with this one: one of a name that is there takes its place, and another one comes last
abbrev pub put_by : {X : Type 0} → (X → List ℕ) → X → List X → List X
put_by name_of new [] = new ∷ []
put_by name_of new (x ∷ xs) = if has_name name_of (name_of new) x then new ∷ xs else x ∷ put_by name_of new xs
