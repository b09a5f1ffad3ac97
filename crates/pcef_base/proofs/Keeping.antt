-- What filters keep.
use Rattle.std.proofs.Common.{◌≡◌, ◌≤◌, ◌+◌, ◌∙◌, ◌&&◌, List, [], ◌∷◌, length, filter, cond, ap, arith, inl, inr, refl, suc, sym, Bool, true, false, not}
use Rattle.std.proofs.lemmas.Bool.{cases_Bool, cond-false, cond-true, cond_both}
use Rattle.std.proofs.lemmas.List.Filters.{length-filter_both}

-- two filters, one after the other, keep what passes both
pub filter_twice : {X : Type 0} (p q : X → Bool) (xs : List X) → filter p (filter q xs) ≡ filter (λ x. q x && p x) xs
filter_twice p q [] = refl
filter_twice p q (x ∷ xs) =
    let rest = filter_twice p q xs in
    cond_both (q x) (x ∷ filter q xs) (filter q xs) (λ l. filter p l ≡ filter (λ y. q y && p y) (x ∷ xs))
    (λ holds. ap (λ l. cond (p x) (x ∷ l) l) rest ∙ ap (λ b. cond (b && p x) (x ∷ filter (λ y. q y && p y) xs) (filter (λ y. q y && p y) xs)) (sym holds))
    (λ fails. rest ∙ ap (λ b. cond (b && p x) (x ∷ filter (λ y. q y && p y) xs) (filter (λ y. q y && p y) xs)) (sym fails))

-- a filter makes no list longer
pub filter_length : {X : Type 0} (p : X → Bool) (xs : List X) → length (filter p xs) ≤ length xs
filter_length p xs = omega (arith, length-filter_both p (λ x. not (p x)) (λ _. refl) xs)

-- where no element passes both filters, they keep no more elements together than there are
pub filters_apart : {X : Type 0} (p q : X → Bool) → ((x : X) → p x ≡ true → q x ≡ false) → (xs : List X) → length (filter p xs) + length (filter q xs) ≤ length xs
filters_apart p q apart [] = omega arith
filters_apart p q apart (x ∷ xs) =
    let rest = filters_apart p q apart xs in
    elim (cases_Bool (p x)) [
      | inl passes ↦
          (let kept = ap length (cond-true (p x) (x ∷ filter p xs) (filter p xs) passes) in
          let left = ap length (cond-false (q x) (x ∷ filter q xs) (filter q xs) (apart x passes)) in
          omega arith)
      | inr fails ↦
          (let left = ap length (cond-false (p x) (x ∷ filter p xs) (filter p xs) fails) in
          cond_both (q x) (x ∷ filter q xs) (filter q xs) (λ l. length (filter p (x ∷ xs)) + length l ≤ suc (length xs)) (λ _. omega arith) (λ _. omega arith))
    ]
