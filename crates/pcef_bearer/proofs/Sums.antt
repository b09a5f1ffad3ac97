-- Sums of guaranteed rates over part of the rules.
use Rattle.std.proofs.Common.{◌≡◌, ◌∙◌, ◌≤◌, ◌<◌, ◌+◌, ℕ, zero, suc, Bool, true, List, [], ◌∷◌, refl, sym, ap, arith, inl, inr, drop, length, get_or, filter, add-one}
use Rattle.std.specs.Prelude.{if◌then◌else◌}
use Rattle.std.proofs.lemmas.Bool.{cases_Bool}
use Rattle.pcef_bearer.specs.declared.bearers.Bound.{Bound}
use Rattle.pcef_model.specs.Bearers.{rate_down, rate_up, sum_up, sum_down}
use Rattle.pcef_bearer.specs.Bindings.{bound_down, bound_up}
use Rattle.pcef_model.proofs.RulesAfter.{filter_all}

-- one rule more or less
cons_up : (p : Bound → Bool) (b : Bound) (bound : List Bound) →
    bound_up (filter p (b ∷ bound)) ≡ (if p b then rate_up b.rates else 0) + bound_up (filter p bound)
unfolding sum_up
cons_up p b bound =
    elim (cases_Bool (p b)) [
      | inl is ↦ rw is refl
      | inr isnt ↦ rw isnt (omega arith)
    ]

cons_down : (p : Bound → Bool) (b : Bound) (bound : List Bound) →
    bound_down (filter p (b ∷ bound)) ≡ (if p b then rate_down b.rates else 0) + bound_down (filter p bound)
unfolding sum_down
cons_down p b bound =
    elim (cases_Bool (p b)) [
      | inl is ↦ rw is refl
      | inr isnt ↦ rw isnt (omega arith)
    ]

-- a step of a loop
step_up : (p : Bound → Bool) (bound : List Bound) (i : ℕ) (b : Bound) → i < length bound → b ≡ get_or bound i b →
    bound_up (filter p (drop i bound)) ≡ (if p b then rate_up b.rates else 0) + bound_up (filter p (drop (suc i) bound))
step_up p [] i b within is = absurd (omega (arith, within))
step_up p (x ∷ bound) zero b within is = rw is (cons_up p x bound)
step_up p (x ∷ bound) (suc i) b within is = step_up p bound i b (omega (arith, within)) is

step_down : (p : Bound → Bool) (bound : List Bound) (i : ℕ) (b : Bound) → i < length bound → b ≡ get_or bound i b →
    bound_down (filter p (drop i bound)) ≡ (if p b then rate_down b.rates else 0) + bound_down (filter p (drop (suc i) bound))
step_down p [] i b within is = absurd (omega (arith, within))
step_down p (x ∷ bound) zero b within is = rw is (cons_down p x bound)
step_down p (x ∷ bound) (suc i) b within is = step_down p bound i b (omega (arith, within)) is

-- nothing is left at the end
pub past_up : (p : Bound → Bool) (bound : List Bound) (i : ℕ) → length bound ≤ i → bound_up (filter p (drop i bound)) ≡ 0
unfolding sum_up
past_up p [] zero past = refl
past_up p [] (suc i) past = refl
past_up p (b ∷ bound) zero past = absurd (omega (arith, past))
past_up p (b ∷ bound) (suc i) past = past_up p bound i (omega (arith, past))

pub past_down : (p : Bound → Bool) (bound : List Bound) (i : ℕ) → length bound ≤ i → bound_down (filter p (drop i bound)) ≡ 0
unfolding sum_down
past_down p [] zero past = refl
past_down p [] (suc i) past = refl
past_down p (b ∷ bound) zero past = absurd (omega (arith, past))
past_down p (b ∷ bound) (suc i) past = past_down p bound i (omega (arith, past))

-- the sum of a part is at most that of all
pub part_up : (p : Bound → Bool) (bound : List Bound) → bound_up (filter p bound) ≤ bound_up bound
unfolding sum_up
part_up p [] = omega arith
part_up p (b ∷ bound) =
    let rest : bound_up (filter p bound) ≤ bound_up bound = part_up p bound in
    elim (cases_Bool (p b)) [
      | inl is ↦ rw is (omega (arith, rest))
      | inr isnt ↦ rw isnt (omega (arith, rest))
    ]

pub part_down : (p : Bound → Bool) (bound : List Bound) → bound_down (filter p bound) ≤ bound_down bound
unfolding sum_down
part_down p [] = omega arith
part_down p (b ∷ bound) =
    let rest : bound_down (filter p bound) ≤ bound_down bound = part_down p bound in
    elim (cases_Bool (p b)) [
      | inl is ↦ rw is (omega (arith, rest))
      | inr isnt ↦ rw isnt (omega (arith, rest))
    ]

pub part_length : (p : Bound → Bool) (bound : List Bound) → length (filter p bound) ≤ length bound
part_length p [] = omega arith
part_length p (b ∷ bound) =
    let rest : length (filter p bound) ≤ length bound = part_length p bound in
    elim (cases_Bool (p b)) [
      | inl is ↦ rw is (omega (arith, rest))
      | inr isnt ↦ rw isnt (omega (arith, rest))
    ]

-- one step more
pub on_up : (p : Bound → Bool) (bound : List Bound) (i : ℕ) (b : Bound) (sum more : ℕ) → i < length bound → b ≡ get_or bound i b →
    sum + bound_up (filter p (drop i bound)) ≡ bound_up (filter p bound) → more ≡ (if p b then rate_up b.rates else 0) →
    sum + more + bound_up (filter p (drop (i + 1) bound)) ≡ bound_up (filter p bound)
on_up p bound i b sum more within is sofar adds =
    let step : bound_up (filter p (drop i bound)) ≡ more + bound_up (filter p (drop (suc i) bound)) = rw adds (step_up p bound i b within is) in
    rw add-one (omega (arith, step, sofar))

pub on_down : (p : Bound → Bool) (bound : List Bound) (i : ℕ) (b : Bound) (sum more : ℕ) → i < length bound → b ≡ get_or bound i b →
    sum + bound_down (filter p (drop i bound)) ≡ bound_down (filter p bound) → more ≡ (if p b then rate_down b.rates else 0) →
    sum + more + bound_down (filter p (drop (i + 1) bound)) ≡ bound_down (filter p bound)
on_down p bound i b sum more within is sofar adds =
    let step : bound_down (filter p (drop i bound)) ≡ more + bound_down (filter p (drop (suc i) bound)) = rw adds (step_down p bound i b within is) in
    rw add-one (omega (arith, step, sofar))

-- ---- all rules
pub all_up : (bound : List Bound) (i : ℕ) (b : Bound) (sum more : ℕ) → i < length bound → b ≡ get_or bound i b →
    sum + bound_up (drop i bound) ≡ bound_up bound → more ≡ rate_up b.rates → sum + more + bound_up (drop (i + 1) bound) ≡ bound_up bound
all_up bound i b sum more within is sofar adds =
    let on = on_up (λ (x : Bound). true) bound i b sum more within is (ap (λ xs. sum + bound_up xs) (filter_all (drop i bound)) ∙ sofar ∙ ap (λ xs. bound_up xs) (sym (filter_all bound))) adds in
    ap (λ xs. sum + more + bound_up xs) (sym (filter_all (drop (i + 1) bound))) ∙ on ∙ ap (λ xs. bound_up xs) (filter_all bound)

pub all_down : (bound : List Bound) (i : ℕ) (b : Bound) (sum more : ℕ) → i < length bound → b ≡ get_or bound i b →
    sum + bound_down (drop i bound) ≡ bound_down bound → more ≡ rate_down b.rates → sum + more + bound_down (drop (i + 1) bound) ≡ bound_down bound
all_down bound i b sum more within is sofar adds =
    let on = on_down (λ (x : Bound). true) bound i b sum more within is (ap (λ xs. sum + bound_down xs) (filter_all (drop i bound)) ∙ sofar ∙ ap (λ xs. bound_down xs) (sym (filter_all bound))) adds in
    ap (λ xs. sum + more + bound_down xs) (sym (filter_all (drop (i + 1) bound))) ∙ on ∙ ap (λ xs. bound_down xs) (filter_all bound)

pub none_up : (bound : List Bound) (i : ℕ) → length bound ≤ i → bound_up (drop i bound) ≡ 0
none_up bound i past = ap (λ xs. bound_up xs) (sym (filter_all (drop i bound))) ∙ past_up (λ (x : Bound). true) bound i past

pub none_down : (bound : List Bound) (i : ℕ) → length bound ≤ i → bound_down (drop i bound) ≡ 0
none_down bound i past = ap (λ xs. bound_down xs) (sym (filter_all (drop i bound))) ∙ past_down (λ (x : Bound). true) bound i past
