-- Tests, and lists of which some element passes one.
use Rattle.std.proofs.Common.{◌≡◌, Bool, true, false, ◌&&◌, ◌||◌, not, List, [], ◌∷◌, refl, sym, ap, inl, inr, filter, Contains}
use Rattle.std.specs.List.{list_any}
use Rattle.std.proofs.lemmas.Bool.{cases_Bool, or_cases}
use Rattle.pcef_model.proofs.Members.{first_there, later_there}

-- two tests that imply each other are one
pub same_test : (a b : Bool) → (a ≡ true → b ≡ true) → (b ≡ true → a ≡ true) → a ≡ b
same_test true b extends back = sym (extends refl)
same_test false true extends back = back refl
same_test false false extends back = refl

-- the first two of three trade places
pub or_swap : (a b c : Bool) → (a || (b || c)) ≡ (b || (a || c))
or_swap true true c = refl
or_swap true false c = refl
or_swap false b c = refl

-- neither of two
pub neither : (a b c : Bool) → (a && not b && not c) ≡ (a && not (b || c))
neither true true c = refl
neither true false c = refl
neither false b c = refl

-- what is never there adds nothing
pub and_not_no : (a c : Bool) → (a && not false && not c) ≡ (a && not c)
and_not_no true c = refl
and_not_no false c = refl

-- an element that passes a test, where some does
pub any_there : {X : Type 0} (test : X → Bool) (xs : List X) → list_any test xs ≡ true → (x : X) × Contains xs x × (test x ≡ true)
any_there test [] some = absurd cc
any_there test (y ∷ xs) some =
    elim (or_cases (test y) (list_any test xs) some) [
      | inl here ↦ (y, first_there y xs, here)
      | inr later ↦ let r = any_there test xs later in (r.0, later_there y xs r.0 r.1, r.2)
    ]

-- some element that stays passes a test where some element stays and passes it
pub any_filter : {X : Type 0} (test stays : X → Bool) (xs : List X) → list_any test (filter stays xs) ≡ list_any (λ x. stays x && test x) xs
any_filter test stays [] = refl
any_filter test stays (x ∷ xs) =
    elim (cases_Bool (stays x)) [
      | inl is ↦ rw is (ap (λ b. test x || b) (any_filter test stays xs))
      | inr isnt ↦ rw isnt (any_filter test stays xs)
    ]

-- ---- the entries of a table
