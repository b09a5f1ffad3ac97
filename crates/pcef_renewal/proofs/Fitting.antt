-- A part of a list, each name once, has no higher sum than the whole.
use Rattle.std.proofs.Common.{◌≡◌, ◌≤◌, ◌+◌, ℕ, Bool, true, false, not, List, [], ◌∷◌, ◌++◌, Contains, filter, length, refl, sym, ap, arith, inl, inr}
use Rattle.std.specs.List.{list_any}
use Rattle.std.proofs.lemmas.Bool.{cases_Bool, false_from_ne_true, or_from, or_parts}
use Rattle.std.proofs.lemmas.List.Elements.{Contains-append_right}
use Rattle.pcef_base.proofs.Found.{any_from}
use Rattle.pcef_base.proofs.Tests.{contrary}
use Rattle.pcef_model.specs.Commands.{is_among}
use Rattle.pcef_model.specs.Named.{has_name, without_name}
use Rattle.pcef_model.specs.Setting.{same_name}
use Rattle.pcef_model.proofs.Members.{filter_to, first_there, later_there, there_cases}
use Rattle.pcef_model.proofs.Names.{Once}
use Rattle.pcef_model.proofs.Sameness.{same_name_is, same_name_not, same_name_of, same_name_self}

-- ---- tests that none passes
pub none_at : {X : Type 0} (t : X → Bool) (xs : List X) (x : X) → list_any t xs ≡ false → Contains xs x → t x ≡ false
none_at t xs x none there = false_from_ne_true (t x) (λ passes. contrary (list_any t xs) (any_from t xs x there passes) none)

-- ---- sums
unfoldable pub sum_of : {X : Type 0} → (X → ℕ) → List X → ℕ
sum_of w [] = 0
sum_of w (x ∷ xs) = w x + sum_of w xs

sum_filter : {X : Type 0} (w : X → ℕ) (t : X → Bool) (xs : List X) → sum_of w (filter t xs) ≤ sum_of w xs
unfolding sum_of
sum_filter w t [] = omega arith
sum_filter w t (x ∷ xs) =
    let rest = sum_filter w t xs in
    elim (cases_Bool (t x)) [ inl is ↦ rw is (omega (arith, rest)) | inr isnt ↦ rw isnt (omega (arith, rest)) ]

-- one that is there adds its own
sum_with : {X : Type 0} (name_of : X → List ℕ) (w : X → ℕ) (x : X) (xs : List X) → Contains xs x →
    w x + sum_of w (without_name name_of (name_of x) xs) ≤ sum_of w xs
unfolding sum_of
sum_with name_of w x [] (k, within, is) = absurd (omega arith)
sum_with name_of w x (y ∷ xs) there =
    elim (there_cases y xs x there) [
      | inl same ↦
          let named : has_name name_of (name_of x) y ≡ true = same_name_of (name_of y) (name_of x) (ap name_of same) in
          let own : w y ≡ w x = ap w same in
          let rest = sum_filter w (λ z. not (has_name name_of (name_of x) z)) xs in
          rw named (omega (arith, own, rest))
      | inr later ↦
          let rest = sum_with name_of w x xs later in
          elim (cases_Bool (has_name name_of (name_of x) y)) [ inl is ↦ rw is (omega (arith, rest)) | inr isnt ↦ rw isnt (omega (arith, rest)) ]
    ]

pub fits : {X : Type 0} (name_of : X → List ℕ) (w : X → ℕ) (part all : List X) → Once name_of part → ((x : X) → Contains part x → Contains all x) →
    sum_of w part ≤ sum_of w all
unfolding sum_of Once
fits name_of w [] all once within = omega arith
fits name_of w (x ∷ part) all once within =
    let rest =
    fits name_of w part (without_name name_of (name_of x) all) once.1
    (λ y there. filter_to (λ z. not (has_name name_of (name_of x) z)) all y (within y (later_there x part y there)) (ap not (none_at (has_name name_of (name_of x)) part y once.0 there))) in
    omega (arith, rest, sum_with name_of w x all (within x (first_there x part)))

-- ---- lengths
ones : {X : Type 0} (xs : List X) → sum_of (λ x. 1) xs ≡ length xs
unfolding sum_of
ones [] = refl
ones (x ∷ xs) = let rest = ones xs in omega (arith, rest)

pub no_longer : {X : Type 0} (name_of : X → List ℕ) (part all : List X) → Once name_of part → ((x : X) → Contains part x → Contains all x) → length part ≤ length all
no_longer name_of part all once within = omega (arith, fits name_of (λ x. 1) part all once within, ones part, ones all)

-- ---- keys
pub among_from : (key : List ℕ) (keys : List (List ℕ)) → Contains keys key → is_among key keys ≡ true
among_from key keys there = any_from (same_name key) keys key there (same_name_self key)

pub among_to : (key : List ℕ) (keys : List (List ℕ)) → is_among key keys ≡ true → Contains keys key
among_to key [] there = absurd cc
among_to key (k ∷ keys) there =
    elim (cases_Bool (same_name key k)) [
      | inl same ↦ (0, omega arith, sym (same_name_is key k same))
      | inr differs ↦ later_there k keys key (among_to key keys (rw differs at there))
    ]

-- a key has the name of one in a list where it is among them
abbrev pub KeysOnce : List (List ℕ) → Type 0
KeysOnce keys = Once (λ k. k) keys

pub absent_named : (key : List ℕ) (keys : List (List ℕ)) → is_among key keys ≡ false → list_any (has_name (λ k. k) key) keys ≡ false
absent_named key [] absent = refl
absent_named key (k ∷ keys) absent =
    elim (cases_Bool (same_name key k)) [
      | inl same ↦ contrary (is_among key (k ∷ keys)) (rw same refl) absent
      | inr differs ↦
          let rest : is_among key keys ≡ false = rw differs at absent in
          rw (same_name_not key k differs) (absent_named key keys rest)
    ]

-- ---- lists that are joined
pub once_append : {X : Type 0} (name_of : X → List ℕ) (xs ys : List X) → Once name_of xs → Once name_of ys →
    ((x : X) → Contains xs x → list_any (has_name name_of (name_of x)) ys ≡ false) → Once name_of (xs ++ ys)
unfolding Once
once_append name_of [] ys one other apart = other
once_append name_of (x ∷ xs) ys one other apart = (
  any_append (has_name name_of (name_of x)) xs ys one.0 (apart x (first_there x xs)),
  once_append name_of xs ys one.1 other (λ y there. apart y (later_there x xs y there)),
)
  where
    any_append : {X : Type 0} (t : X → Bool) (xs ys : List X) → list_any t xs ≡ false → list_any t ys ≡ false → list_any t (xs ++ ys) ≡ false
    any_append t [] ys one other = other
    any_append t (x ∷ xs) ys one other =
        let parts = or_parts (t x) (list_any t xs) one in rw parts.0 (any_append t xs ys parts.1 other)

pub once_alone : {X : Type 0} (name_of : X → List ℕ) (x : X) → Once name_of (x ∷ [])
unfolding Once
once_alone name_of x = (refl, tt)

pub once_push : {X : Type 0} (name_of : X → List ℕ) (xs : List X) (x : X) → Once name_of xs → list_any (has_name name_of (name_of x)) xs ≡ false → Once name_of (xs ++ x ∷ [])
once_push name_of xs x once absent =
    once_append name_of xs (x ∷ []) once (once_alone name_of x)
    (λ y there. or_from (has_name name_of (name_of y) x) false
    (same_name_not (name_of y) (name_of x) (none_at (has_name name_of (name_of x)) xs y absent there)) refl)

-- a part at the front
pub once_front : {X : Type 0} (name_of : X → List ℕ) (xs ys : List X) → Once name_of (xs ++ ys) → Once name_of xs
unfolding Once
once_front name_of [] ys once = tt
once_front name_of (x ∷ xs) ys once = (any_front (has_name name_of (name_of x)) xs ys once.0, once_front name_of xs ys once.1)
  where
    any_front : {X : Type 0} (t : X → Bool) (xs ys : List X) → list_any t (xs ++ ys) ≡ false → list_any t xs ≡ false
    any_front t [] ys none = refl
    any_front t (x ∷ xs) ys none =
        let parts = or_parts (t x) (list_any t (xs ++ ys)) none in rw parts.0 (any_front t xs ys parts.1)

-- the next one isn't named like one before it
pub once_next : {X : Type 0} (name_of : X → List ℕ) (xs : List X) (x : X) (ys : List X) → Once name_of (xs ++ x ∷ ys) → list_any (has_name name_of (name_of x)) xs ≡ false
unfolding Once
once_next name_of [] x ys once = refl
once_next name_of (z ∷ xs) x ys once =
    or_from (has_name name_of (name_of x) z) (list_any (has_name name_of (name_of x)) xs)
    (same_name_not (name_of x) (name_of z) (none_at (has_name name_of (name_of z)) (xs ++ x ∷ ys) x once.0 (Contains-append_right xs (x ∷ ys) x (first_there x ys))))
    (once_next name_of xs x ys once.1)
