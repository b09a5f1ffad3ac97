-- The first token of a text, by where its blanks are.
use Rattle.std.proofs.Common.{ℕ, ◌≡◌, ◌+◌, ◌<◌, ◌≤◌, ◌-◌, suc, Bool, false, not, List, [], ◌∷◌, length, take, drop, refl, arith, sym, ◌∙◌, ap, inl, inr, Some, None}
use Rattle.std.specs.Prelude.{filter, nat_lt, position}
use Rattle.std.specs.List.{slice_split, onto_first, position_or_len}
use Rattle.std.proofs.lemmas.Bool.{cases_Bool}
use Rattle.std.proofs.lemmas.Option.{cond_some}
use Rattle.std.proofs.lemmas.List.{drop_all, take_all, length-drop}
use Rattle.std.proofs.lemmas.Bool.Decides.{nat_tests}
use borrow.Author.Tests.{ltb-true}
use Rattle.pcef_filter.specs.Tokens.{is_blank, has_octets, tokens}

-- `tokens` for any separator
abbrev parts : (ℕ → Bool) → List ℕ → List (List ℕ)
parts p xs = filter has_octets (slice_split p xs)

-- separators at the front can be dropped
parts_skip : (p : ℕ → Bool) (xs : List ℕ) → parts p (drop (position_or_len (λ b. not (p b)) xs) xs) ≡ parts p xs
parts_skip p [] = refl
parts_skip p (x ∷ xs) =
    let one : 1 + position_or_len (λ b. not (p b)) xs ≡ suc (position_or_len (λ b. not (p b)) xs) = omega arith in
    elim (cases_Bool (p x)) [
      | inl blank ↦ rw (blank, one) (parts_skip p xs)
      | inr filled ↦ rw (filled, filled) refl
    ]

-- a split's first part ends at the first separator
parts_front : (p : ℕ → Bool) (xs : List ℕ) → (more : List (List ℕ))
    × (slice_split p xs ≡ take (position_or_len p xs) xs ∷ more)
    × (filter has_octets more ≡ parts p (drop (position_or_len p xs) xs))
parts_front p [] = ([], refl, refl)
parts_front p (x ∷ xs) =
    let one : 1 + position_or_len p xs ≡ suc (position_or_len p xs) = omega arith in
    elim (cases_Bool (p x)) [
      | inl blank ↦ rw blank (slice_split p xs, refl, rw blank refl)
      | inr filled ↦
          let rest = parts_front p xs in
          rw (filled, one) (rest.0, ap (onto_first x) rest.1, rest.2)
    ]

-- what begins with no separator begins with its first part
parts_first : (p : ℕ → Bool) (x : ℕ) (xs : List ℕ) → p x ≡ false
    → parts p (x ∷ xs) ≡ take (position_or_len p (x ∷ xs)) (x ∷ xs) ∷ parts p (drop (position_or_len p (x ∷ xs)) (x ∷ xs))
parts_first p x xs filled =
    let one : 1 + position_or_len p xs ≡ suc (position_or_len p xs) = omega arith in
    let rest = parts_front p xs in
    rw (filled, rest.1, one) (ap (λ (l : List (List ℕ)). (x ∷ take (position_or_len p xs) xs) ∷ l) rest.2)

-- behind the separators at the front something is left that is none
parts_start : (p : ℕ → Bool) (xs : List ℕ) → position_or_len (λ b. not (p b)) xs < length xs
    → (y : ℕ) × (ys : List ℕ) × (drop (position_or_len (λ b. not (p b)) xs) xs ≡ y ∷ ys) × (p y ≡ false)
parts_start p [] h = absurd (omega arith)
parts_start p (x ∷ xs) h =
    let one : 1 + position_or_len (λ b. not (p b)) xs ≡ suc (position_or_len (λ b. not (p b)) xs) = omega arith in
    elim (cases_Bool (p x)) [
      | inl blank ↦
          let below : position_or_len (λ b. not (p b)) xs < length xs = (let h' = rw blank at h in omega arith) in
          rw (blank, one) (parts_start p xs below)
      | inr filled ↦ rw filled (x, xs, refl, filled)
    ]

-- where `position` finds something, and where it finds nothing
position_some : (p : ℕ → Bool) (xs : List ℕ) (n : ℕ) → position p xs ≡ Some n → (position_or_len p xs < length xs) × (position_or_len p xs ≡ n)
position_some p xs n h =
    let parted = cond_some (nat_lt (position_or_len p xs) (length xs)) (position_or_len p xs) n h in
    (ltb-true (position_or_len p xs) (length xs) parted.0, parted.1)

position_none : (p : ℕ → Bool) (xs : List ℕ) → position p xs ≡ None → length xs ≤ position_or_len p xs
position_none p xs h = elim (cases_Bool (nat_lt (position_or_len p xs) (length xs))) [
  | inl inside ↦ let e : Some (position_or_len p xs) ≡ None = sym (rw inside refl) ∙ h in absurd (cc)
  | inr past ↦ grind (arith, nat_tests)
]

-- blanks alone are no token
pub no_token : (xs : List ℕ) → position (λ b. not (is_blank b)) xs ≡ None → tokens xs ≡ []
unfolding tokens
no_token xs h =
    sym (parts_skip is_blank xs) ∙ ap (parts is_blank) (drop_all (position_or_len (λ b. not (is_blank b)) xs) xs (position_none _ xs h))

-- behind the blanks at the front stands the first token
pub first_token : (xs : List ℕ) (n : ℕ) → position (λ b. not (is_blank b)) xs ≡ Some n
    → (n ≤ length xs) × (tokens xs ≡ take (position_or_len is_blank (drop n xs)) (drop n xs) ∷ tokens (drop (position_or_len is_blank (drop n xs)) (drop n xs)))
unfolding tokens
first_token xs n h =
    let place = position_some (λ b. not (is_blank b)) xs n h in
    let start = parts_start is_blank xs place.0 in
    let cut : drop n xs ≡ start.0 ∷ start.1 = ap (λ (k : ℕ). drop k xs) (sym place.1) ∙ start.2 in
    let skipped : parts is_blank (start.0 ∷ start.1) ≡ parts is_blank xs = ap (parts is_blank) (sym start.2) ∙ parts_skip is_blank xs in
    (omega arith, rw cut (sym skipped ∙ parts_first is_blank start.0 start.1 start.3))

-- a slice that begins at a place, in the words of the code
pub tail_from : (xs : List ℕ) (n : ℕ) → take (length xs - n) (drop n xs) ≡ drop n xs
tail_from xs n = take_all (length xs - n) (drop n xs) (omega (arith, length-drop {A = ℕ} n xs))

-- the first token by the lengths that the code counts
pub tokens_cut : (text token rest : List ℕ) (n k : ℕ) → Some n ≡ position (λ b. not (is_blank b)) text
    → k ≡ position_or_len is_blank (take (length text - n) (drop n text))
    → token ≡ take k (take (length text - n) (drop n text)) → rest ≡ drop k (take (length text - n) (drop n text)) → tokens text ≡ token ∷ tokens rest
tokens_cut text token rest n k h place front back =
    (first_token text n (sym h)).1 ∙ rw (front, back, place, tail_from text n) refl
