-- Octets on their way to threads (own choice).
use Rattle.std.specs.Prelude.{ℕ, ◌≡◌, ◌<◌, List, [], ◌++◌, length, slice_index_or}
use Rattle.pcef_shards.specs.declared.sorting.Sorting.{Sorting}
use Rattle.pcef_shards.specs.Sorted.{waits}

-- some octets begin a whole
abbrev pub Begins : List ℕ → List ℕ → Type 0
Begins front whole = (rest : List ℕ) × (whole ≡ front ++ rest)

-- what was led to a thread
abbrev pub led_to : List (List ℕ) → ℕ → List ℕ
led_to lanes t = slice_index_or lanes t []

-- what waited was led, and nothing waits
pub record LeadsAll (old : List (List ℕ)) (waited : Sorting) (new : List (List ℕ)) (waiting : Sorting) : Type 0 where
  pub led : (t : ℕ) → t < length old → led_to new t ≡ led_to old t ++ waits waited t
  pub none : (t : ℕ) → t < length old → waits waiting t ≡ []
