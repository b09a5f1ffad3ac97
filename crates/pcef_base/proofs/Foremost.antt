-- The first element that passes a test, in a list in order.
use Rattle.std.proofs.Common.{◌≡◌, ◌∙◌, ◌⊎◌, suc, List, [], ◌∷◌, Some, None, find, refl, sym, arith, inl, inr, Bool, true, false, All, AllPairs, Contains}
use Rattle.std.proofs.lemmas.Bool.{cases_Bool, cond-true, cond-false}
use Rattle.std.proofs.lemmas.List.Elements.{All-nil, All-cons, All-weaker, Contains-append_left, Contains-append_right}

-- the head of a list in order goes before the others
pub ordered_head : {X : Type 0} (R : X → X → Type 0) (x : X) (xs : List X) → AllPairs R (x ∷ xs) → All (R x) xs
ordered_head R x xs ordered k d within = ordered 0 (suc k) d (omega arith) (omega arith)

-- the others of a list in order are in order
pub ordered_tail : {X : Type 0} (R : X → X → Type 0) (x : X) (xs : List X) → AllPairs R (x ∷ xs) → AllPairs R xs
ordered_tail R x xs ordered i j d below within = ordered (suc i) (suc j) d (omega arith) (omega arith)

-- the first element that passes is there, passes, and goes before each other one that passes
pub record IsForemost {X : Type 0} (R : X → X → Type 0) (p : X → Bool) (xs : List X) (x : X) : Type 0 where
  pub there : Contains xs x
  pub passes : p x ≡ true
  pub first : All (λ y. p y ≡ true → (y ≡ x) ⊎ R x y) xs

-- what is found in a list in order is the foremost
pub found_is_foremost : {X : Type 0} (R : X → X → Type 0) (p : X → Bool) (xs : List X) (x : X) → AllPairs R xs → find p xs ≡ Some x → IsForemost R p xs x
found_is_foremost R p [] x ordered found = absurd cc
found_is_foremost R p (y ∷ xs) x ordered found =
    elim (cases_Bool (p y)) [
      | inl passes ↦
          (let same : y ≡ x = (let e = cond-true (p y) (Some y) (find p xs) passes in cc) in
          rw (← same) (record {
            there = Contains-append_left (y ∷ []) xs y (0, omega arith, refl);
            passes = passes;
            first = All-cons (λ z. p z ≡ true → (z ≡ y) ⊎ R y z) y xs (λ _. inl refl)
                (All-weaker (R y) (λ z. p z ≡ true → (z ≡ y) ⊎ R y z) (λ z above _. inr above) xs (ordered_head R y xs ordered));
          }))
      | inr fails ↦
          (let later = found_is_foremost R p xs x (ordered_tail R y xs ordered) (sym (cond-false (p y) (Some y) (find p xs) fails) ∙ found) in
          record {
            there = Contains-append_right (y ∷ []) xs x later.there;
            passes = later.passes;
            first = All-cons (λ z. p z ≡ true → (z ≡ x) ⊎ R x z) y xs (λ passes. absurd cc) later.first;
          })
    ]

-- where nothing is found nothing passes
pub none_passes : {X : Type 0} (p : X → Bool) (xs : List X) → find p xs ≡ None → All (λ x. p x ≡ false) xs
none_passes p [] none = All-nil (λ x. p x ≡ false)
none_passes p (x ∷ xs) none =
    elim (cases_Bool (p x)) [
      | inl passes ↦ absurd (let e = cond-true (p x) (Some x) (find p xs) passes in cc)
      | inr fails ↦ All-cons (λ y. p y ≡ false) x xs fails (none_passes p xs (sym (cond-false (p x) (Some x) (find p xs) fails) ∙ none))
    ]
