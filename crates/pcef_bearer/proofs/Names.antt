-- Rules that are bound, with a name each, and their sums.
use Rattle.std.proofs.Common.{◌≡◌, ◌+◌, List, [], ◌∷◌, arith, inl, inr}
use Rattle.std.proofs.lemmas.Bool.{cases_Bool}
use Rattle.pcef_bearer.specs.declared.bearers.Bound.{Bound}
use Rattle.pcef_bearer.specs.Bindings.{is_bound_as, bound_down, bound_up}
use Rattle.pcef_bearer.specs.BindingSteps.{with_bound, without_bound}
use Rattle.pcef_model.specs.Bearers.{rate_down, rate_up, sum_up, sum_down}
use Rattle.pcef_model.proofs.Names.{Once, behind_stay, tail_once}

-- each name once
abbrev pub NamesOnce : List Bound → Type 0
NamesOnce bound = Once (λ b. b.name) bound

-- ---- sums
pub put_up : (new : Bound) (bound : List Bound) → NamesOnce bound →
    bound_up (with_bound new bound) ≡ bound_up (without_bound new.name bound) + rate_up new.rates
unfolding sum_up
put_up new [] once = omega arith
put_up new (b ∷ bound) once =
    elim (cases_Bool (is_bound_as new.name b)) [
      | inl is ↦ rw is (rw (behind_stay (λ (b : Bound). b.name) new.name b bound once is) (omega arith))
      | inr isnt ↦
          let rest : bound_up (with_bound new bound) ≡ bound_up (without_bound new.name bound) + rate_up new.rates = put_up new bound (tail_once (λ (b : Bound). b.name) b bound once) in
          rw isnt (omega (arith, rest))
    ]

pub put_down : (new : Bound) (bound : List Bound) → NamesOnce bound →
    bound_down (with_bound new bound) ≡ bound_down (without_bound new.name bound) + rate_down new.rates
unfolding sum_down
put_down new [] once = omega arith
put_down new (b ∷ bound) once =
    elim (cases_Bool (is_bound_as new.name b)) [
      | inl is ↦ rw is (rw (behind_stay (λ (b : Bound). b.name) new.name b bound once is) (omega arith))
      | inr isnt ↦
          let rest : bound_down (with_bound new bound) ≡ bound_down (without_bound new.name bound) + rate_down new.rates =
          put_down new bound (tail_once (λ (b : Bound). b.name) b bound once) in
          rw isnt (omega (arith, rest))
    ]
