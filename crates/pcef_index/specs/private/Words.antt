-- Words of bits, one bit for each of 64 lines.
use Rattle.std.specs.Prelude.{ℕ, ◌+◌, ◌≡◌, ◌<◌, ◌≤◌, Bool, true, false, Option, Some, None, List, find, length, slice_get, slice_index_or, option_map, option_and_then}
use Rattle.std.specs.Int.{bit_at}
use Rattle.std.specs.Option.{option_map_or}
use Rattle.pcef_index.specs.declared.lines.Line.{Line}

-- the word at place k has bit i
abbrev pub Has : List ℕ → ℕ → ℕ → Type 0
Has words k i = bit_at (slice_index_or words k 0) i ≡ 1

-- no word and no bit is lost
pub record Grows (old new : List ℕ) : Type 0 where
  pub long : length new ≡ length old
  pub keeps : (k i : ℕ) → Has old k i → Has new k i

-- a bit is set in the words from the first to the last
pub record MarksWords (old new : List ℕ) (bit first last : ℕ) : Type 0 where
  pub grows : Grows old new
  pub sets : (k : ℕ) → first ≤ k → k ≤ last → Has new k bit

-- line n is there, and passes a test
abbrev pub fits_at : (Line → Bool) → List Line → ℕ → Bool
fits_at test lines n = option_map_or test (slice_get lines n) false

-- the number at place j is there, and passes a test
abbrev pub passes_at : (ℕ → Bool) → List ℕ → ℕ → Bool
passes_at test numbers j = option_map_or test (slice_get numbers j) false

-- of the 64 numbers from a place on, those that pass a test have their bits in a word
abbrev pub AreSieved : (ℕ → Bool) → List ℕ → ℕ → ℕ → Type 0
AreSieved test numbers from word = (i : ℕ) → i < 64 → passes_at test numbers (from + i) ≡ true → bit_at word i ≡ 1

-- none of these numbers passes a test
abbrev pub FailTo : (ℕ → Bool) → List ℕ → ℕ → ℕ → Type 0
FailTo test numbers from count = (i : ℕ) → i < count → passes_at test numbers (from + i) ≡ false

-- the place of the rule of line n, if it is there
abbrev pub place_at : List Line → ℕ → Option ℕ
place_at lines n = option_map (λ l. l.place) (slice_get lines n)

-- the place of the rule of the first line with one of these numbers that passes a test
abbrev pub first_of : (Line → Bool) → List Line → List ℕ → Option ℕ
first_of test lines numbers = option_and_then (place_at lines) (find (fits_at test lines) numbers)

-- the place of the rule of the line whose number stands at place j, if it passes a test
abbrev pub IsFitAt : (Line → Bool) → List Line → List ℕ → ℕ → Option ℕ → Type 0
IsFitAt test lines numbers j None = passes_at (fits_at test lines) numbers j ≡ false
IsFitAt test lines numbers j (Some place) =
    (n : ℕ) × (slice_get numbers j ≡ Some n) × (fits_at test lines n ≡ true) × (place_at lines n ≡ Some place)

-- the place of the rule of the first of the 64 numbered lines from one on that passes a test, or none
abbrev pub IsFirstIn : (Line → Bool) → List Line → List ℕ → ℕ → Option ℕ → Type 0
IsFirstIn test lines numbers from None = FailTo (fits_at test lines) numbers from 64
IsFirstIn test lines numbers from (Some place) =
    (i : ℕ) × FailTo (fits_at test lines) numbers from i × IsFitAt test lines numbers (from + i) (Some place)
