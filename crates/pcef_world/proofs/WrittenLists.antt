-- The places of a list that is written at one place.
use Rattle.std.proofs.Common.{◌≡◌, ◌<◌, ◌++◌, ◌⊎◌, map, ℕ, suc, zero, List, [], ◌∷◌, length, refl, sym, ap, arith, inl, inr, Some}
use Rattle.std.specs.Prelude.{slice_get, slice_set}
use Rattle.std.specs.Option.{option_map}

pub get_written : {X : Type 0} (xs : List X) (i : ℕ) (y : X) → i < length xs → slice_get (slice_set xs i y) i ≡ Some y
get_written [] i y within = absurd (omega (arith, within))
get_written (x ∷ xs) zero y within = refl
get_written (x ∷ xs) (suc i) y within = get_written xs i y (omega (arith, within))

pub get_beside : {X : Type 0} (xs : List X) (i k : ℕ) (y : X) → (k ≡ i → ⊥) → slice_get (slice_set xs i y) k ≡ slice_get xs k
get_beside [] i k y differ = refl
get_beside (x ∷ xs) zero zero y differ = absurd (differ refl)
get_beside (x ∷ xs) zero (suc k) y differ = refl
get_beside (x ∷ xs) (suc i) zero y differ = refl
get_beside (x ∷ xs) (suc i) (suc k) y differ = get_beside xs i k y (λ same. differ (ap suc same))

-- what stands at a place of a list with one more
pub get_pushed : {X : Type 0} (xs : List X) (x y : X) (k : ℕ) → slice_get (xs ++ y ∷ []) k ≡ Some x → (slice_get xs k ≡ Some x) ⊎ ((k ≡ length xs) × (y ≡ x))
get_pushed [] x y zero is = inr (refl, cc)
get_pushed [] x y (suc k) is = absurd cc
get_pushed (z ∷ xs) x y zero is = inl is
get_pushed (z ∷ xs) x y (suc k) is = elim (get_pushed xs x y k is) [ inl there ↦ inl there | inr last ↦ inr (ap suc last.0, last.1) ]

pub get_mapped : {X Y : Type 0} (f : X → Y) (xs : List X) (k : ℕ) → slice_get (map f xs) k ≡ option_map f (slice_get xs k)
get_mapped f [] k = refl
get_mapped f (x ∷ xs) zero = refl
get_mapped f (x ∷ xs) (suc k) = get_mapped f xs k

pub set_mapped : {X Y : Type 0} (f : X → Y) (xs : List X) (k : ℕ) (y : X) → map f (slice_set xs k y) ≡ slice_set (map f xs) k (f y)
set_mapped f [] k y = refl
set_mapped f (x ∷ xs) zero y = refl
set_mapped f (x ∷ xs) (suc k) y = ap (λ ys. f x ∷ ys) (set_mapped f xs k y)

-- the same is written
pub set_same : {X : Type 0} (xs : List X) (k : ℕ) (x : X) → slice_get xs k ≡ Some x → slice_set xs k x ≡ xs
set_same [] k x is = refl
set_same {X = X} (z ∷ xs) zero x is = let same : z ≡ x = cc in ap (λ (y : X). y ∷ xs) (sym same)
set_same (z ∷ xs) (suc k) x is = ap (λ ys. z ∷ ys) (set_same xs k x is)

-- what was written last stays
pub set_twice : {X : Type 0} (xs : List X) (k : ℕ) (y : X) → slice_set (slice_set xs k y) k y ≡ slice_set xs k y
set_twice [] k y = refl
set_twice (z ∷ xs) zero y = refl
set_twice (z ∷ xs) (suc k) y = ap (λ ys. z ∷ ys) (set_twice xs k y)

-- a place stays as the list grows
pub get_before : {X : Type 0} (xs : List X) (x y : X) (k : ℕ) → slice_get xs k ≡ Some x → slice_get (xs ++ y ∷ []) k ≡ Some x
get_before [] x y k there = absurd cc
get_before (z ∷ xs) x y zero there = there
get_before (z ∷ xs) x y (suc k) there = get_before xs x y k there
