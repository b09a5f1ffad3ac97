-- The first line that passes a test, by the numbers of lines.
use Rattle.std.proofs.Common.{◌≡◌, ◌++◌, ◌∙◌, ℕ, Bool, true, false, Option, Some, None, List, [], ◌∷◌, find, ap, refl, sym, inl, inr}
use Rattle.std.specs.Prelude.{option_map, option_and_then, slice_get}
use Rattle.std.specs.Option.{option_map_or, option_or}
use Rattle.std.proofs.lemmas.Bool.{cases_Bool, cond-true, cond-false}
use Rattle.std.proofs.lemmas.List.Folds.{find-append}
use Rattle.pcef_index.specs.declared.lines.Line.{Line}
use Rattle.pcef_index.specs.private.Words.{first_of, fits_at, place_at}

abbrev pub place_of : Option Line → Option ℕ
place_of o = option_map (λ (l : Line). l.place) o

-- what is found passes the test
pub found_passes : {X : Type 0} (test : X → Bool) (xs : List X) (x : X) → find test xs ≡ Some x → test x ≡ true
found_passes test [] x found = absurd (cc)
found_passes test (y ∷ ys) x found =
    elim (cases_Bool (test y)) [
      | inl here ↦ (let same : y ≡ x = (let e = sym (cond-true (test y) (Some y) (find test ys) here) ∙ found in cc) in ap test (sym same) ∙ here)
      | inr not_here ↦ found_passes test ys x (sym (cond-false (test y) (Some y) (find test ys) not_here) ∙ found)
    ]

-- of one more line that fails no more is found
pub skip_one : {X : Type 0} (test : X → Bool) (xs : List X) (x : X) → test x ≡ false → find test (xs ++ x ∷ []) ≡ find test xs
skip_one test [] x fails = cond-false (test x) (Some x) None fails
skip_one test (y ∷ ys) x fails =
    elim (cases_Bool (test y)) [
      | inl here ↦ cond-true (test y) (Some y) (find test (ys ++ x ∷ [])) here ∙ sym (cond-true (test y) (Some y) (find test ys) here)
      | inr not_here ↦
          cond-false (test y) (Some y) (find test (ys ++ x ∷ [])) not_here ∙ skip_one test ys x fails ∙ sym (cond-false (test y) (Some y) (find test ys) not_here)
    ]

-- a line that passes is there
place_there : (test : Line → Bool) (lines : List Line) (n : ℕ) (o : Option Line) → option_map_or test o false ≡ true → place_of o ≡ None → ⊥
place_there test lines n None fits none = absurd (cc)
place_there test lines n (Some l) fits none = absurd (cc)

-- the place of one line, by its number
first_one : (test : Line → Bool) (lines : List Line) (n : ℕ) (l : Line) → slice_get lines n ≡ Some l
    → option_and_then (place_at lines) (find (fits_at test lines) (n ∷ [])) ≡ place_of (find test (l ∷ []))
-- the place of one line, by its number
first_one test lines n l there =
    let fits : fits_at test lines n ≡ test l = ap (λ (o : Option Line). option_map_or test o false) there in
    elim (cases_Bool (test l)) [
      | inl here ↦
          ap (option_and_then (place_at lines)) (cond-true (fits_at test lines n) (Some n) None (fits ∙ here)) ∙ ap place_of there
          ∙ sym (ap place_of (cond-true (test l) (Some l) None here))
      | inr not_here ↦
          ap (option_and_then (place_at lines)) (cond-false (fits_at test lines n) (Some n) None (fits ∙ not_here))
          ∙ sym (ap place_of (cond-false (test l) (Some l) None not_here))
    ]

-- with one more number the first is that with one more line
one_more : (test : Line → Bool) (lines xs : List Line) (n : ℕ) (l : Line) (a : Option ℕ) (b : Option Line) → slice_get lines n ≡ Some l
    → ((m : ℕ) → a ≡ Some m → fits_at test lines m ≡ true) → option_and_then (place_at lines) a ≡ place_of b
    → option_and_then (place_at lines) (option_or a (find (fits_at test lines) (n ∷ []))) ≡ place_of (option_or b (find test (l ∷ [])))
one_more test lines xs n l None None there passes same = first_one test lines n l there
one_more test lines xs n l None (Some y) there passes same = absurd (cc)
one_more test lines xs n l (Some m) None there passes same = absurd (place_there test lines m (slice_get lines m) (passes m refl) same)
one_more test lines xs n l (Some m) (Some y) there passes same = same

pub first_more : (test : Line → Bool) (lines xs : List Line) (numbers : List ℕ) (n : ℕ) (l : Line) → slice_get lines n ≡ Some l
    → first_of test lines numbers ≡ place_of (find test xs) → first_of test lines (numbers ++ n ∷ []) ≡ place_of (find test (xs ++ l ∷ []))
first_more test lines xs numbers n l there same =
    ap (option_and_then (place_at lines)) (find-append (fits_at test lines) numbers (n ∷ []))
    ∙ one_more test lines xs n l (find (fits_at test lines) numbers) (find test xs) there (λ m found. found_passes (fits_at test lines) numbers m found) same
    ∙ sym (ap place_of (find-append test xs (l ∷ [])))
