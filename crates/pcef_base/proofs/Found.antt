-- What `find` and `list_any` say of the elements of a list.
use Rattle.std.proofs.Common.{◌≡◌, ◌∙◌, suc, zero, Bool, true, false, List, [], ◌∷◌, refl, sym, ap, arith, find, Contains, Some, None, inl, inr, subst}
use Rattle.std.specs.Prelude.{Option, All}
use Rattle.std.specs.List.{list_any, list_all}
use Rattle.std.proofs.lemmas.Bool.{or_left, or_right, and_parts, and_from, cases_Bool}
use Rattle.std.proofs.lemmas.List.Elements.{All-contains, All-head, All-tail}
use Rattle.pcef_base.proofs.Foremost.{found_is_foremost, none_passes}
use Rattle.pcef_base.proofs.Tests.{contrary}

-- an element that passes a test is seen by it
pub any_from : {X : Type 0} (test : X → Bool) (xs : List X) (x : X) → Contains xs x → test x ≡ true → list_any test xs ≡ true
any_from test [] x (k, within, is) passes = absurd (omega arith)
any_from test (y ∷ xs) x (zero, within, is) passes = or_left (test y) (list_any test xs) (ap test is ∙ passes)
any_from test (y ∷ xs) x (suc k, within, is) passes = or_right (test y) (list_any test xs) (any_from test xs x (k, omega arith, is) passes)

-- where no element passes, none is found
pub find_none : {X : Type 0} (test : X → Bool) (xs : List X) → ((x : X) → Contains xs x → test x ≡ false) → find test xs ≡ None
find_none {X} test xs none = from (find test xs) refl
  where
    from : (o : Option X) → find test xs ≡ o → find test xs ≡ None
    from None is = is
    from (Some x) is =
        let f = found_is_foremost (λ _ _. Unit {0}) test xs x (λ i j d below within. tt) is in
        contrary (test x) f.passes (none x f.there)

-- an element that passes is found, or another one before it
pub find_some : {X : Type 0} (test : X → Bool) (xs : List X) (x : X) → Contains xs x → test x ≡ true → (y : X) × (find test xs ≡ Some y) × Contains xs y × (test y ≡ true)
find_some {X} test xs x there passes = from (find test xs) refl
  where
    from : (o : Option X) → find test xs ≡ o → (y : X) × (find test xs ≡ Some y) × Contains xs y × (test y ≡ true)
    from None is = contrary (test x) passes (All-contains (λ y. test y ≡ false) xs x (none_passes test xs is) there)
    from (Some y) is =
        let f = found_is_foremost (λ _ _. Unit {0}) test xs y (λ i j d below within. tt) is in (y, is, f.there, f.passes)

-- the one element that passes is found
pub find_one : {X : Type 0} (test : X → Bool) (xs : List X) (x : X) → Contains xs x → test x ≡ true → ((y : X) → Contains xs y → test y ≡ true → y ≡ x) → find test xs ≡ Some x
find_one test xs x there passes one = let f = find_some test xs x there passes in f.1 ∙ ap (λ y. Some y) (one f.0 f.2 f.3)

-- where all pass, each does
pub all_at : {X : Type 0} (test : X → Bool) (xs : List X) (x : X) → list_all test xs ≡ true → Contains xs x → test x ≡ true
all_at test [] x all (k, within, is) = absurd (omega arith)
all_at test (y ∷ xs) x all (zero, within, is) = ap test (sym is) ∙ (and_parts (test y) (list_all test xs) all).0
all_at test (y ∷ xs) x all (suc k, within, is) = all_at test xs x (and_parts (test y) (list_all test xs) all).1 (k, omega arith, is)

-- where each passes, all do
pub all_from : {X : Type 0} (test : X → Bool) (xs : List X) → ((x : X) → Contains xs x → test x ≡ true) → list_all test xs ≡ true
all_from test [] each = refl
all_from test (y ∷ xs) each =
    and_from (test y) (list_all test xs) (each y (0, omega arith, refl)) (all_from test xs (λ x there. each x (suc there.0, omega (arith, there.1), there.2)))

-- what is found passes the test
pub found_passes : {X : Type 0} (t : X → Bool) (xs : List X) (x : X) → find t xs ≡ Some x → t x ≡ true
found_passes t [] x found = absurd (cc)
found_passes t (y ∷ xs) x found =
    elim (cases_Bool (t y)) [
      | inl is ↦
          let it : Some y ≡ Some x = rw is at found in
          let same : y ≡ x = cc in
          subst (λ z. t z ≡ true) same is
      | inr isnt ↦ found_passes t xs x (rw isnt at found)
    ]

-- what holds of all holds of what is found
pub found_is : {X : Type 0} (P : X → Type 0) (t : X → Bool) (xs : List X) (x : X) → All P xs → find t xs ≡ Some x → P x
found_is P t [] x all found = absurd (cc)
found_is P t (y ∷ xs) x all found =
    elim (cases_Bool (t y)) [
      | inl is ↦
          let it : Some y ≡ Some x = rw is at found in
          let same : y ≡ x = cc in
          subst P same (All-head P y xs all)
      | inr isnt ↦ found_is P t xs x (All-tail P y xs all) (rw isnt at found)
    ]
