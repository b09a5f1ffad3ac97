-- Lists of things that have a name, each name once: what puts and filters leave of them.
use Rattle.std.proofs.Common.{◌≡◌, ℕ, zero, suc, Bool, true, false, ◌||◌, List, [], ◌∷◌, refl, sym, ap, subst, arith, inl, inr, length, get_or, filter}
use Rattle.std.specs.Prelude.{◌⊎◌, All, AllPairs}
use Rattle.std.specs.List.{list_any}
use Rattle.std.proofs.lemmas.Bool.{cases_Bool, or_cases, or_left, or_right, or_parts, false_from_ne_true}
use Rattle.std.proofs.lemmas.List.Elements.{All-cons, All-head, All-nil, All-tail}
use Rattle.std.proofs.lemmas.List.Folds.{list_any_at, list_any_none}
use Rattle.std.proofs.lemmas.List.Kept.{AllPairs-cons}
use Rattle.pcef_base.proofs.Tests.{contrary}
use Rattle.pcef_model.proofs.Sameness.{same_name_is, same_name_not, same_name_of}
use Rattle.pcef_model.specs.Named.{has_name, put_by, without_name}
use Rattle.pcef_model.specs.Setting.{same_name}

-- a test that none passes
pub any_at : {X : Type 0} (t : X → Bool) (bound : List X) → list_any t bound ≡ false → All (λ b. t b ≡ false) bound
any_at t bound none k d within =
    false_from_ne_true (t (get_or bound k d)) (λ there. contrary (list_any t bound) (list_any_at t bound k d within there) none)

-- each name once
unfoldable pub Once : {X : Type 0} → (X → List ℕ) → List X → Type 0
Once name_of [] = Unit {0}
Once name_of (b ∷ bound) = (list_any (has_name name_of (name_of b)) bound ≡ false) × Once name_of bound

pub once_from_pairs : {X : Type 0} (name_of : X → List ℕ) (bound : List X) → AllPairs (λ a b. same_name (name_of a) (name_of b) ≡ false) bound → Once name_of bound
unfolding Once
once_from_pairs name_of [] all = tt
once_from_pairs name_of (b ∷ bound) all = (
  list_any_none (has_name name_of (name_of b)) bound
      (λ k d within. same_name_not (name_of b) (name_of (get_or bound k d)) (all zero (suc k) d (omega arith) (omega (arith, within)))),
  once_from_pairs name_of bound (λ i j d below within. all (suc i) (suc j) d (omega (arith, below)) (omega (arith, within))),
)

pub pairs_from_once : {X : Type 0} (name_of : X → List ℕ) (bound : List X) → Once name_of bound → AllPairs (λ a b. same_name (name_of a) (name_of b) ≡ false) bound
unfolding Once
pairs_from_once name_of [] once = λ i j d below within. absurd (omega (arith, within))
pairs_from_once name_of (b ∷ bound) once =
    AllPairs-cons (λ a b. same_name (name_of a) (name_of b) ≡ false) b bound
    (λ k d within. same_name_not (name_of (get_or bound k d)) (name_of b) (any_at (has_name name_of (name_of b)) bound once.0 k d within))
    (pairs_from_once name_of bound once.1)

-- where none has a name, all stay
pub without_none : {X : Type 0} (name_of : X → List ℕ) (name : List ℕ) (bound : List X) → list_any (has_name name_of name) bound ≡ false → without_name name_of name bound ≡ bound
without_none name_of name [] none = refl
without_none name_of name (b ∷ bound) none =
    let parts = or_parts (has_name name_of name b) (list_any (has_name name_of name) bound) none in
    rw (parts.0, without_none name_of name bound parts.1) refl

-- the rules behind one of a name all stay
pub behind_stay : {X : Type 0} (name_of : X → List ℕ) (name : List ℕ) (b : X) (bound : List X) → Once name_of (b ∷ bound) → has_name name_of name b ≡ true → without_name name_of name bound ≡ bound
unfolding Once
behind_stay name_of name b bound once is =
    without_none name_of name bound (subst (λ (n : List ℕ). list_any (has_name name_of n) bound ≡ false) (same_name_is (name_of b) name is) once.0)

pub tail_once : {X : Type 0} (name_of : X → List ℕ) (b : X) (bound : List X) → Once name_of (b ∷ bound) → Once name_of bound
unfolding Once
tail_once name_of b bound once = once.1

-- ---- filters
-- what is left was there
pub filter_any : {A : Type 0} (t s : A → Bool) (xs : List A) → list_any t (filter s xs) ≡ true → list_any t xs ≡ true
filter_any t s [] there = there
filter_any t s (x ∷ xs) there =
    elim (cases_Bool (s x)) [
      | inl is ↦
          let parts : (t x || list_any t (filter s xs)) ≡ true = rw is at there in
          elim (or_cases (t x) (list_any t (filter s xs)) parts) [
            | inl first ↦ or_left (t x) (list_any t xs) first
            | inr later ↦ or_right (t x) (list_any t xs) (filter_any t s xs later)
          ]
      | inr isnt ↦
          let later : list_any t (filter s xs) ≡ true = rw isnt at there in
          or_right (t x) (list_any t xs) (filter_any t s xs later)
    ]

-- ---- put
-- what is there after a put is the new rule or was there before
pub put_any : {X : Type 0} (name_of : X → List ℕ) (t : X → Bool) (new : X) (bound : List X) → list_any t (put_by name_of new bound) ≡ true →
    (t new ≡ true) ⊎ (list_any t bound ≡ true)
put_any name_of t new [] there = or_cases (t new) false there
put_any name_of t new (b ∷ bound) there =
    elim (cases_Bool (has_name name_of (name_of new) b)) [
      | inl is ↦
          let parts : (t new || list_any t bound) ≡ true = rw is at there in
          elim (or_cases (t new) (list_any t bound) parts) [
            | inl first ↦ inl first
            | inr later ↦ inr (or_right (t b) (list_any t bound) later)
          ]
      | inr isnt ↦
          let parts : (t b || list_any t (put_by name_of new bound)) ≡ true = rw isnt at there in
          elim (or_cases (t b) (list_any t (put_by name_of new bound)) parts) [
            | inl first ↦ inr (or_left (t b) (list_any t bound) first)
            | inr later ↦ elim (put_any name_of t new bound later) [
              | inl it ↦ inl it
              | inr other ↦ inr (or_right (t b) (list_any t bound) other)
            ]
          ]
    ]

-- a put takes the place of its name
pub put_once : {X : Type 0} (name_of : X → List ℕ) (new : X) (bound : List X) → Once name_of bound → Once name_of (put_by name_of new bound)
unfolding Once
put_once name_of new [] once = (refl, tt)
put_once name_of new (b ∷ bound) once =
    elim (cases_Bool (has_name name_of (name_of new) b)) [
      | inl is ↦
          let name_is : (name_of b) ≡ (name_of new) = same_name_is (name_of b) (name_of new) is in
          rw is (subst (λ (name : List ℕ). list_any (has_name name_of name) bound ≡ false) name_is once.0, once.1)
      | inr isnt ↦ rw isnt (
        false_from_ne_true (list_any (has_name name_of (name_of b)) (put_by name_of new bound))
            (λ there. elim (put_any name_of (has_name name_of (name_of b)) new bound there) [
              | inl it ↦ contrary (has_name name_of (name_of new) b) (same_name_of (name_of b) (name_of new) (sym (same_name_is (name_of new) (name_of b) it))) isnt
              | inr other ↦ contrary (list_any (has_name name_of (name_of b)) bound) other once.0
            ]),
        put_once name_of new bound once.1,
      )
    ]

-- what holds of the new rule and of all others holds of all after a put
pub put_all : {X : Type 0} (name_of : X → List ℕ) (P : X → Type 0) (new : X) (bound : List X) → Once name_of bound → P new → All P (without_name name_of (name_of new) bound) →
    All P (put_by name_of new bound)
put_all name_of P new [] once it others = All-cons P new [] it (All-nil P)
put_all name_of P new (b ∷ bound) once it others =
    elim (cases_Bool (has_name name_of (name_of new) b)) [
      | inl is ↦
          let left : All P (without_name name_of (name_of new) bound) = rw is at others in
          let rest : All P bound = subst (All P) (behind_stay name_of (name_of new) b bound once is) left in
          rw is (All-cons P new bound it rest)
      | inr isnt ↦
          let left : All P (b ∷ without_name name_of (name_of new) bound) = rw isnt at others in
          rw isnt
          (All-cons P b (put_by name_of new bound) (All-head P b (without_name name_of (name_of new) bound) left)
          (put_all name_of P new bound (tail_once name_of b bound once) it (All-tail P b (without_name name_of (name_of new) bound) left)))
    ]

-- a put of a name that is there keeps the length
pub put_length : {X : Type 0} (name_of : X → List ℕ) (new : X) (bound : List X) → list_any (has_name name_of (name_of new)) bound ≡ true → length (put_by name_of new bound) ≡ length bound
put_length name_of new [] there = contrary false there refl
put_length name_of new (b ∷ bound) there =
    elim (cases_Bool (has_name name_of (name_of new) b)) [
      | inl is ↦ rw is refl
      | inr isnt ↦
          let later : list_any (has_name name_of (name_of new)) bound ≡ true = rw isnt at there in
          rw isnt (ap suc (put_length name_of new bound later))
    ]

-- what is left has each name once
pub filter_once : {X : Type 0} (name_of : X → List ℕ) (s : X → Bool) (rules : List X) → Once name_of rules → Once name_of (filter s rules)
unfolding Once
filter_once name_of s [] once = tt
filter_once name_of s (r ∷ rules) once =
    elim (cases_Bool (s r)) [
      | inl is ↦ rw is (
        false_from_ne_true (list_any (has_name name_of (name_of r)) (filter s rules))
            (λ there. contrary (list_any (has_name name_of (name_of r)) rules) (filter_any (has_name name_of (name_of r)) s rules there) once.0),
        filter_once name_of s rules once.1,
      )
      | inr isnt ↦ rw isnt (filter_once name_of s rules once.1)
    ]

-- a filter that drops the new rule leaves of a put what it leaves of the other rules
pub put_filter : {X : Type 0} (name_of : X → List ℕ) (h : X → Bool) (new : X) (rules : List X) → h new ≡ false → Once name_of rules →
    filter h (put_by name_of new rules) ≡ filter h (without_name name_of (name_of new) rules)
unfolding Once
put_filter name_of h new [] drops once = rw drops refl
put_filter name_of h new (r ∷ rules) drops once =
    elim (cases_Bool (has_name name_of (name_of new) r)) [
      | inl is ↦
          let name_is : (name_of r) ≡ (name_of new) = same_name_is (name_of r) (name_of new) is in
          let none : list_any (has_name name_of (name_of new)) rules ≡ false =
          subst (λ name. list_any (has_name name_of name) rules ≡ false) name_is once.0 in
          let stay : without_name name_of (name_of new) rules ≡ rules = without_none name_of (name_of new) rules none in
          rw is (rw (drops, stay) refl)
      | inr isnt ↦ rw isnt (rw (put_filter name_of h new rules drops once.1) refl)
    ]
