-- Where a rule is put.
use Rattle.std.proofs.Common.{◌≡◌, ◌≤◌, ◌<◌, ℕ, zero, suc, Bool, true, false, List, [], ◌∷◌, ◌++◌, refl, ap, arith, inl, inr, length, get_or, slice_set, Some, None}
use Rattle.std.specs.Prelude.{nat_lt, position}
use Rattle.std.specs.List.{list_any, position_or_len}
use Rattle.std.proofs.lemmas.Bool.{cases_Bool, ltb-false, or_parts}
use Rattle.std.proofs.lemmas.List.Quantifiers.{position-Some}
use Rattle.std.proofs.lemmas.List.Folds.{list_any_none}
use Rattle.std.proofs.lemmas.List.Sums.{fails_before_first}
use Rattle.pcef_bearer.specs.declared.bearers.Bound.{Bound}
use Rattle.pcef_bearer.specs.Bindings.{is_bound_as}
use Rattle.pcef_bearer.specs.BindingSteps.{with_bound}

-- behind all rules, where none has the name
pub put_behind : (new : Bound) (bound : List Bound) → list_any (is_bound_as new.name) bound ≡ false → with_bound new bound ≡ bound ++ new ∷ []
put_behind new [] none = refl
put_behind new (b ∷ bound) none =
    let parts = or_parts (is_bound_as new.name b) (list_any (is_bound_as new.name) bound) none in
    rw (parts.0, put_behind new bound parts.1) refl

-- in the place of the first one of the name
put_first : (new : Bound) (bound : List Bound) (i : ℕ) (d : Bound) → i < length bound → is_bound_as new.name (get_or bound i d) ≡ true →
    ((k : ℕ) → k < i → is_bound_as new.name (get_or bound k d) ≡ false) → slice_set bound i new ≡ with_bound new bound
put_first new [] i d within is first = absurd (omega arith)
put_first new (b ∷ bound) zero d within is first = rw is refl
put_first new (b ∷ bound) (suc i) d within is first =
    let isnt : is_bound_as new.name b ≡ false = first 0 (omega arith) in
    rw isnt (ap (λ rest. b ∷ rest) (put_first new bound i d (omega arith) is (λ k below. first (suc k) (omega arith))))

pub put_at : (new : Bound) (bound : List Bound) (i : ℕ) → position (is_bound_as new.name) bound ≡ Some i → slice_set bound i new ≡ with_bound new bound
put_at new bound i at =
    let found = position-Some (is_bound_as new.name) bound i new at in
    put_first new bound i new found.0 found.1 found.2

-- where no place is found, none has the name
pub no_place : (t : Bound → Bool) (bound : List Bound) → position t bound ≡ None → list_any t bound ≡ false
no_place t bound none =
    elim (cases_Bool (nat_lt (position_or_len t bound) (length bound))) [
      | inl is ↦
          let bad : Some (position_or_len t bound) ≡ None = rw is at none in
          absurd (cc)
      | inr isnt ↦
          let past : length bound ≤ position_or_len t bound = ltb-false (position_or_len t bound) (length bound) isnt in
          list_any_none t bound (λ k d within. fails_before_first t bound k d (omega (arith, past)))
    ]
