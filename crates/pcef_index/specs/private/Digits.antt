-- Words by the digits of numbers: a digit has four bits, and a word for each of its sixteen values.
use Rattle.std.specs.Prelude.{ℕ, ◌+◌, ◌*◌, ◌/◌, ◌%◌, ◌^◌, ◌≡◌, ◌<◌, List, [], ◌∷◌, get_or, length}
use Rattle.pcef_index.specs.declared.digits.Digits.{Digits}
use Rattle.pcef_index.specs.private.Words.{Grows, Has}

-- a digit of a number, the lowest first
abbrev pub digit_of : ℕ → ℕ → ℕ
digit_of n k = n / 2 ^ (4 * k) % 16

-- the words from a place on have a bit at the values of a number's first digits
abbrev pub HasDigits : List ℕ → ℕ → ℕ → ℕ → ℕ → Type 0
HasDigits words at count n i = (k : ℕ) → k < count → Has words (at + 16 * k + digit_of n k) i

-- the place of the word of a number's digit, among those of a block
abbrev pub digit_place : ℕ → ℕ → ℕ
digit_place n k = 16 * k + digit_of n k

abbrev pub digit_places : ℕ → List ℕ
digit_places n =
    digit_place n 0 ∷ digit_place n 1 ∷ digit_place n 2 ∷ digit_place n 3 ∷ digit_place n 4 ∷ digit_place n 5
    ∷ digit_place n 6 ∷ digit_place n 7 ∷ []

-- the words of a block have a line's bit at the digits of a number
abbrev pub LetsDigits : Digits → ℕ → ℕ → ℕ → Type 0
LetsDigits d block n i = HasDigits d.words.items (128 * block) 8 n i

-- values of a digit agree above some low bits; four or more leave nothing to agree in
abbrev pub AgreeAbove : ℕ → ℕ → ℕ → Type 0
AgreeAbove loose v w = loose < 4 → v / 2 ^ loose ≡ w / 2 ^ loose

-- bits are set at the values of a digit that agree with one above some low bits
pub record MarksDigit (old new : List ℕ) (at bit value loose : ℕ) : Type 0 where
  pub grows : Grows old new
  pub sets : (v : ℕ) → v < 16 → AgreeAbove loose v value → Has new (at + v) bit

-- bits are set at the digits of numbers that agree with one above some low bits
pub record MarksNumber (old new : List ℕ) (at bit number loose : ℕ) : Type 0 where
  pub grows : Grows old new
  pub sets : (n : ℕ) → n / 2 ^ loose ≡ number / 2 ^ loose → HasDigits new at 8 n bit

-- places are among the words of a block
abbrev pub ArePlaces : List ℕ → Type 0
ArePlaces places = (k : ℕ) → k < 8 → get_or places k 0 < 128

-- there are no words, or those of so many blocks
abbrev pub AreDigits : ℕ → Digits → Type 0
AreDigits blocks d = 0 < length d.words.items → length d.words.items ≡ 128 * blocks
