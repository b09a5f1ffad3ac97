-- Elements that are split by a number that each has.
use Rattle.std.proofs.Common.{◌≡◌, ◌≢◌, ◌∙◌, ◌≤◌, ◌<◌, ◌+◌, ℕ, zero, suc, ◌==◌, List, [], ◌∷◌, All, length, filter, take, get_or, sum_by, refl, ap, sym, arith, inl, inr}
use Rattle.std.proofs.lemmas.Bool.{eq-eqb, ne_eqb}
use Rattle.std.proofs.lemmas.Bool.Decides.{eqb_tells}
use Rattle.std.proofs.lemmas.List.{take_more}
use Rattle.std.proofs.lemmas.List.Elements.{All-head, All-tail}
use Rattle.std.proofs.lemmas.List.Sums.{sum_by_push}
use Rattle.std.proofs.Math.Seq.{take-length}

-- how many have this number, and how many have a lower one
abbrev pub of_number : {X : Type 0} → (X → ℕ) → ℕ → List X → ℕ
of_number f n xs = length (filter (λ x. f x == n) xs)

pub below : {X : Type 0} → (X → ℕ) → ℕ → List X → ℕ
below f zero xs = 0
below f (suc n) xs = below f n xs + of_number f n xs

below_none : {X : Type 0} (f : X → ℕ) (n : ℕ) → below f n [] ≡ 0
unfolding below
below_none f zero = refl
below_none f (suc n) = omega (arith, below_none f n)

here : {X : Type 0} (f : X → ℕ) (n : ℕ) (x : X) (xs : List X) → f x ≡ n → of_number f n (x ∷ xs) ≡ of_number f n xs + 1
here f n x xs is = rw (eq-eqb (f x) n is) (omega arith)

elsewhere : {X : Type 0} (f : X → ℕ) (n : ℕ) (x : X) (xs : List X) → f x ≢ n → of_number f n (x ∷ xs) ≡ of_number f n xs
elsewhere f n x xs other = rw (ne_eqb (f x) n other) refl

below_past : {X : Type 0} (f : X → ℕ) (n : ℕ) (x : X) (xs : List X) → n ≤ f x → below f n (x ∷ xs) ≡ below f n xs
unfolding below
below_past f zero x xs past = refl
below_past f (suc n) x xs past =
    let before : n ≤ f x = omega (arith, past) in
    let other : f x ≢ n = λ (e : f x ≡ n). omega (arith, past, e) in
    omega (arith, below_past f n x xs before, elsewhere f n x xs other)

below_more : {X : Type 0} (f : X → ℕ) (n : ℕ) (x : X) (xs : List X) → f x < n → below f n (x ∷ xs) ≡ below f n xs + 1
unfolding below
below_more f zero x xs less = absurd (omega (arith, less))
below_more f (suc n) x xs less = elim (eqb_tells (f x) n) [
  | inl p ↦
      let past : n ≤ f x = omega (arith, p.1) in
      omega (arith, below_past f n x xs past, here f n x xs p.1)
  | inr p ↦
      let lower : f x < n = (let other : f x ≢ n = p.1 in omega (arith, less, other)) in
      omega (arith, below_more f n x xs lower, elsewhere f n x xs p.1)
]

-- where all have lower ones
pub all_below : {X : Type 0} (f : X → ℕ) (n : ℕ) (xs : List X) → All (λ x. f x < n) xs → below f n xs ≡ length xs
all_below f n [] all = below_none f n
all_below f n (x ∷ xs) all =
    let P : _ → Type 0 = λ y. f y < n in
    omega (arith, below_more f n x xs (All-head P x xs all), all_below f n xs (All-tail P x xs all))

sum_so_far : {X Y : Type 0} (f : X → ℕ) (g : Y → ℕ) (xs : List X) (ys : List Y) (d : Y) → ((n : ℕ) → n < length ys → g (get_or ys n d) ≡ of_number f n xs)
    → (i : ℕ) → i ≤ length ys → sum_by g (take i ys) ≡ below f i xs
unfolding below
sum_so_far f g xs ys d each zero within = refl
sum_so_far f g xs ys d each (suc i) within =
    let inside : i < length ys = omega (arith, within) in
    let before : i ≤ length ys = omega (arith, within) in
    let next : suc i ≡ i + 1 = omega arith in
    let so_far : sum_by g (take (i + 1) ys) ≡ sum_by g (take i ys) + g (get_or ys i d) = ap (sum_by g) (take_more ys i d inside) ∙ sum_by_push g (take i ys) (get_or ys i d) in
    ap (λ k. sum_by g (take k ys)) next ∙ omega (arith, so_far, sum_so_far f g xs ys d each i before, each i inside)

-- a list that has for each number how many have it
pub sums_up : {X Y : Type 0} (f : X → ℕ) (g : Y → ℕ) (xs : List X) (ys : List Y) (d : Y) → ((n : ℕ) → n < length ys → g (get_or ys n d) ≡ of_number f n xs)
    → All (λ x. f x < length ys) xs → sum_by g ys ≡ length xs
sums_up f g xs ys d each all =
    ap (sum_by g) (sym (take-length ys)) ∙ sum_so_far f g xs ys d each (length ys) (omega arith) ∙ all_below f (length ys) xs all
