-- Numbers in text, with an octet between each two.
use Rattle.std.specs.Prelude.{ℕ, ◌+◌, ◌*◌, ◌≡◌, List, [], ◌∷◌, ◌++◌, Option, Some, None}

infixl 10 ◌>>=◌
abbrev pub ◌>>=◌ : {A B : Type 0} → Option A → (A → Option B) → Option B
(Some x) >>= next = next x
None >>= next = None

-- the text is pieces in turn, with the separator between each two; each piece spells the number at its place
abbrev pub WritesJoined : ℕ → (List ℕ → Option ℕ) → List ℕ → List ℕ → Type 0
WritesJoined separator spelt text [] = ⊥
WritesJoined separator spelt text (number ∷ []) = spelt text ≡ Some number
WritesJoined separator spelt text (number ∷ next ∷ numbers) =
    (front : List ℕ) × (rest : List ℕ) × (text ≡ front ++ (separator ∷ rest)) × (spelt front ≡ Some number)
    × WritesJoined separator spelt rest (next ∷ numbers)

-- the number that digits of a base write behind those of another number
abbrev pub number_behind : ℕ → ℕ → List ℕ → ℕ
number_behind base number [] = number
number_behind base number (digit ∷ digits) = number_behind base (number * base + digit) digits

-- the number that digits of a base write, of which the first is the highest
abbrev pub number_of : ℕ → List ℕ → ℕ
number_of base digits = number_behind base 0 digits
