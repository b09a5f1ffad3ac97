-- Names in ascending order.
use Rattle.std.proofs.Common.{◌≡◌, ◌∙◌, ℕ, Bool, true, false, List, [], ◌∷◌, inl, inr, refl, ap}
use Rattle.std.specs.Cmp.Lexicographic.{nat_list_cmp_total, slice_cmp}
use Rattle.std.specs.List.{AllByRecursion}
use Rattle.std.specs.List.Sorted.{IsPermutation}
use Rattle.std.specs.Ordering.{is_lt, nat_cmp, ordering_reverse}
use Rattle.std.specs.declared.cmp.Ordering.{Ordering}
use Rattle.std.specs.declared.cmp.Ordering.TheVariants.{Less, Equal, Greater}
use Rattle.std.proofs.lemmas.Bool.{cases_Bool, false_from_ne_true}
use Rattle.std.proofs.lemmas.List.Sorted.{IsPermutation-cons, IsPermutation-middle, IsPermutation-refl, IsPermutation-trans}
use Rattle.pcef_base.proofs.Tests.{contrary}
use Rattle.pcef_model.specs.Reports.{in_order, insert_name}
use Rattle.pcef_core.specs.Reporting.{Ascends}

abbrev is_below : List ℕ → List ℕ → Bool
is_below a b = is_lt (slice_cmp nat_cmp a b)

is_less : (r : Ordering) → is_lt r ≡ true → r ≡ Less
is_less Less is = refl
is_less Equal is = absurd cc
is_less Greater is = absurd cc

not_back : (a b : List ℕ) → is_below a b ≡ true → is_below b a ≡ false
not_back a b is =
    ap is_lt (nat_list_cmp_total.antisymm b a ∙ ap ordering_reverse (is_less (slice_cmp nat_cmp a b) is))

-- what isn't below a name isn't below one that goes before it
not_through : (a b c : List ℕ) → is_below a b ≡ true → is_below c b ≡ false → is_below c a ≡ false
not_through a b c is isnt =
    false_from_ne_true (is_below c a)
    (λ lower. contrary (is_below c b)
    (ap is_lt (nat_list_cmp_total.trans c a b (is_less (slice_cmp nat_cmp c a) lower) (is_less (slice_cmp nat_cmp a b) is))) isnt)

all_through : (a b : List ℕ) (names : List (List ℕ)) → is_below a b ≡ true → AllByRecursion (λ later. is_below later b ≡ false) names → AllByRecursion (λ later. is_below later a ≡ false) names
all_through a b [] is none = tt
all_through a b (n ∷ names) is none = (not_through a b n is none.0, all_through a b names is none.1)

all_inserted : (P : List ℕ → Type 0) (name : List ℕ) (names : List (List ℕ)) → P name → AllByRecursion P names → AllByRecursion P (insert_name name names)
all_inserted P name [] new old = (new, tt)
all_inserted P name (n ∷ names) new old =
    elim (cases_Bool (is_below name n)) [
      | inl before ↦ rw before (new, old)
      | inr behind ↦ rw behind (old.0, all_inserted P name names new old.1)
    ]

ascends_inserted : (name : List ℕ) (names : List (List ℕ)) → Ascends names → Ascends (insert_name name names)
ascends_inserted name [] sorted = (tt, tt)
ascends_inserted name (n ∷ names) sorted =
    elim (cases_Bool (is_below name n)) [
      | inl before ↦ rw before ((not_back name n before, all_through name n names before sorted.0), sorted)
      | inr behind ↦ rw behind (all_inserted (λ later. is_below later n ≡ false) name names behind sorted.0, ascends_inserted name names sorted.1)
    ]

pub ascends_in_order : (names : List (List ℕ)) → Ascends (in_order names)
ascends_in_order [] = tt
ascends_in_order (name ∷ names) = ascends_inserted name (in_order names) (ascends_in_order names)

permutes_inserted : (name : List ℕ) (names : List (List ℕ)) → IsPermutation (name ∷ names) (insert_name name names)
permutes_inserted name [] = IsPermutation-refl (name ∷ [])
permutes_inserted name (n ∷ names) =
    elim (cases_Bool (is_below name n)) [
      | inl before ↦ rw before (IsPermutation-refl (name ∷ n ∷ names))
      | inr behind ↦
          rw behind
          (IsPermutation-trans (name ∷ n ∷ names) (n ∷ name ∷ names) (n ∷ insert_name name names)
          (IsPermutation-middle (name ∷ []) n names)
          (IsPermutation-cons n (name ∷ names) (insert_name name names) (permutes_inserted name names)))
    ]

pub permutes_in_order : (names : List (List ℕ)) → IsPermutation names (in_order names)
permutes_in_order [] = IsPermutation-refl []
permutes_in_order (name ∷ names) =
    IsPermutation-trans (name ∷ names) (name ∷ in_order names) (insert_name name (in_order names))
    (IsPermutation-cons name names (in_order names) (permutes_in_order names))
    (permutes_inserted name (in_order names))
