-- The first piece of a token, by where its first separator is.
use Rattle.std.proofs.Common.{ℕ, ◌≡◌, ◌+◌, ◌-◌, ◌<◌, Bool, true, List, [], ◌∷◌, length, take, drop, refl, arith, sym, ◌∙◌, inl, inr}
use Rattle.std.specs.Prelude.{◌==◌}
use Rattle.std.specs.List.{slice_split, onto_first, position_or_len}
use Rattle.std.specs.Char.{is_ascii_digit}
use Rattle.std.proofs.lemmas.Bool.{cases_Bool}
use Rattle.std.proofs.lemmas.List.Splits.{slice_split_first}
use Rattle.pcef_filter.specs.Pieces.{pieces}
use Rattle.pcef_filter.specs.Tokens.{Token, begins_with_digit}
use Rattle.pcef_filter.proofs.TokenLaws.{tail_from}

whole_by : (p : ℕ → Bool) (xs : List ℕ) → position_or_len p xs ≡ length xs → slice_split p xs ≡ xs ∷ []
whole_by p [] h = refl
whole_by p (x ∷ xs) h = elim (cases_Bool (p x)) [
  | inl stops ↦ let clash = rw stops at h in absurd (omega arith)
  | inr goes ↦
      let rest : position_or_len p xs ≡ length xs = (let h' = rw goes at h in omega arith) in
      rw (goes, whole_by p xs rest) refl
]

-- no separator: the whole token is a piece
pub pieces_whole : (s : ℕ) (xs : List ℕ) (n : ℕ) → n ≡ position_or_len (λ b. b == s) xs → n ≡ length xs → pieces s xs ≡ xs ∷ []
unfolding pieces
pieces_whole s xs n place end = whole_by (λ b. b == s) xs (sym place ∙ end)

-- some separator: the pieces are what stands before the first, and those of what stands behind it
pub pieces_cut : (s : ℕ) (xs front rest : List ℕ) (n : ℕ) → n ≡ position_or_len (λ b. b == s) xs → n < length xs
    → front ≡ take n xs → rest ≡ drop (n + 1) xs → pieces s xs ≡ front ∷ pieces s rest
unfolding pieces
pieces_cut s xs front rest n place inside first last =
    let below : position_or_len (λ b. b == s) xs < length xs = omega arith in
    slice_split_first (λ b. b == s) xs 0 below ∙ rw (first, last, place) refl

-- where the first piece begins with a digit, so does the token
pub front_digit : (s : ℕ) (t a : Token) (ps : List Token) → pieces s t ≡ a ∷ ps → begins_with_digit a ≡ true → begins_with_digit t ≡ true
unfolding pieces begins_with_digit
front_digit s [] a ps h digit = let same : a ≡ [] = cc in let clash = rw same at digit in absurd (cc)
front_digit s (b ∷ bs) a ps h digit = elim (cases_Bool (b == s)) [
  | inl stops ↦ let clash = rw stops at h in (let same : a ≡ [] = cc in let other = rw same at digit in absurd (cc))
  | inr goes ↦ let opened = rw goes at h in ontop b (slice_split (λ x. x == s) bs) a ps opened digit
]
  where
    ontop : (b : ℕ) (l : List Token) (a : Token) (ps : List Token) → onto_first b l ≡ a ∷ ps → begins_with_digit a ≡ true → is_ascii_digit b ≡ true
    ontop b [] a ps h digit = let same : a ≡ b ∷ [] = cc in rw same at digit
    ontop b (part ∷ parts) a ps h digit = let same : a ≡ b ∷ part = cc in rw same at digit

-- no token is without pieces
some_by : (p : ℕ → Bool) (xs : List ℕ) → 0 < length (slice_split p xs)
some_by p [] = omega arith
some_by p (x ∷ xs) = elim (cases_Bool (p x)) [
  | inl stops ↦ rw stops (omega arith)
  | inr goes ↦ rw goes (onto (slice_split p xs))
]
  where
    onto : (l : List (List ℕ)) → 0 < length (onto_first x l)
    onto [] = omega arith
    onto (part ∷ parts) = omega arith

pub pieces_some : (s : ℕ) (xs : List ℕ) → 0 < length (pieces s xs)
unfolding pieces
pieces_some s xs = some_by (λ b. b == s) xs

pub cut_whole : (s n : ℕ) (xs : List ℕ) → n ≡ position_or_len (λ b. b == s) xs → n ≡ length xs → pieces s xs ≡ xs ∷ []
cut_whole s n xs place end = pieces_whole s xs n place end

pub cut_parts : (s n : ℕ) (xs : List ℕ) → n ≡ position_or_len (λ b. b == s) xs → n < length xs
    → pieces s xs ≡ take n xs ∷ pieces s (take (length xs - (n + 1)) (drop (n + 1) xs))
cut_parts s n xs place inside = pieces_cut s xs (take n xs) _ n place inside refl (tail_from xs (n + 1))
