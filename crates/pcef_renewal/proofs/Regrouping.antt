-- Numbers that go up by one, and lists that stand in groups.
use Rattle.std.proofs.Common.{◌≡◌, ◌∙◌, ◌≤◌, ◌<◌, ◌+◌, ◌==◌, ◌++◌, ℕ, suc, zero, Bool, true, false, List, [], ◌∷◌, Contains, Some, filter, find, length, map, nat_lt, take, refl, sym, ap, ap₂, subst, arith, inl, inr}
use Rattle.std.specs.Prelude.{◌⊎◌}
use Rattle.std.proofs.lemmas.Bool.{cases_Bool, cases_lt, eq-eqb, eqb-false, eqb-true, false_from_ne_true, le-ltb, lt-ltb}
use Rattle.std.proofs.lemmas.List.{append-nil, append_assoc}
use Rattle.std.proofs.lemmas.List.Elements.{Contains-append_cases, filter-append}
use Rattle.pcef_model.specs.ActiveRules.{Active}
use Rattle.pcef_model.specs.Entries.{Journal}
use Rattle.pcef_model.specs.Setting.{Setting}
use Rattle.pcef_model.proofs.Members.{first_there, later_there, there_cases}
use Rattle.pcef_model.proofs.Names.{Once}
use Rattle.pcef_renewal.specs.Maps.{place_among}
use Rattle.pcef_renewal.specs.Renewal.{placed, rules_on, rules_on_each}
use Rattle.pcef_renewal.proofs.Order.{Ascends, NumbersOnce, ascends_from, not_there}

-- ---- filters
pub filter_kept : {X : Type 0} (t : X → Bool) (xs : List X) → ((x : X) → Contains xs x → t x ≡ true) → filter t xs ≡ xs
filter_kept t [] all = refl
filter_kept t (x ∷ xs) all = rw (all x (first_there x xs)) (ap (λ ys. x ∷ ys) (filter_kept t xs (λ y there. all y (later_there x xs y there))))

pub filter_gone : {X : Type 0} (t : X → Bool) (xs : List X) → ((x : X) → Contains xs x → t x ≡ false) → filter t xs ≡ []
filter_gone t [] none = refl
filter_gone t (x ∷ xs) none = rw (none x (first_there x xs)) (filter_gone t xs (λ y there. none y (later_there x xs y there)))

pub map_same : {X Y : Type 0} (f g : X → Y) (xs : List X) → ((x : X) → Contains xs x → f x ≡ g x) → map f xs ≡ map g xs
map_same f g [] same = refl
map_same f g (x ∷ xs) same = ap₂ (λ y ys. y ∷ ys) (same x (first_there x xs)) (map_same f g xs (λ y there. same y (later_there x xs y there)))

-- ---- numbers that go up by one
pub ascends_take : (k n : ℕ) (xs : List ℕ) → Ascends k xs → Ascends k (take n xs)
unfolding Ascends
ascends_take k zero [] up = tt
ascends_take k (suc n) [] up = tt
ascends_take k zero (y ∷ xs) up = tt
ascends_take k (suc n) (y ∷ xs) up = (up.0, ascends_take (suc k) n xs up.1)

-- the least one that passes
pub find_least : (test : ℕ → Bool) (k m : ℕ) (xs : List ℕ) → Ascends k xs → k ≤ m → m < k + length xs → ((i : ℕ) → k ≤ i → i < m → test i ≡ false) → test m ≡ true → find test xs ≡ Some m
unfolding Ascends
find_least test k m [] up low high before here = absurd (omega (arith, low, high))
find_least test k m (y ∷ xs) up low high before here =
    let is : y ≡ k = up.0 in
    elim (cases_lt k m) [
      | inl less ↦
          let fails : test y ≡ false = ap test is ∙ before k (omega arith) less in
          rw fails (find_least test (suc k) m xs up.1 (omega (arith, less)) (omega (arith, high)) (λ i from below. before i (omega (arith, from)) below) here)
      | inr most ↦
          let same : y ≡ m = omega (arith, is, most, low) in
          let passes : test y ≡ true = ap test same ∙ here in
          rw passes (ap (λ n. Some n) same)
    ]

-- those below a bound are the first
pub first_by : (test : ℕ → Bool) (k n : ℕ) (xs : List ℕ) → Ascends k xs → ((m : ℕ) → Contains xs m → test m ≡ nat_lt m (k + n)) → filter test xs ≡ take n xs
unfolding Ascends
first_by test k zero [] up same = refl
first_by test k (suc n) [] up same = refl
first_by test k zero (y ∷ xs) up same =
    filter_gone test (y ∷ xs) (λ m there. same m there ∙ le-ltb m (k + 0) (let low = ascends_from k (y ∷ xs) m up there in omega (arith, low)))
first_by test k (suc n) (y ∷ xs) up same =
    let is : y ≡ k = up.0 in
    let passes : test y ≡ true = same y (first_there y xs) ∙ lt-ltb y (k + suc n) (omega (arith, is)) in
    rw passes (ap (λ ys. y ∷ ys) (first_by test (suc k) n xs up.1 (λ m there. same m (later_there y xs m there) ∙ ap (nat_lt m) (sum k n))))
  where
    sum : (k n : ℕ) → k + suc n ≡ suc k + n
    sum k n = omega arith

pub ascend_same : (k : ℕ) (xs ys : List ℕ) → Ascends k xs → Ascends k ys → length xs ≡ length ys → xs ≡ ys
unfolding Ascends
ascend_same k [] [] one other same = refl
ascend_same k [] (y ∷ ys) one other same = absurd (omega (arith, same))
ascend_same k (x ∷ xs) [] one other same = absurd (omega (arith, same))
ascend_same k (x ∷ xs) (y ∷ ys) one other same =
    let x_is : x ≡ k = one.0 in
    let y_is : y ≡ k = other.0 in
    ap₂ (λ z zs. z ∷ zs) (x_is ∙ sym y_is) (ascend_same (suc k) xs ys one.1 other.1 (omega (arith, same)))

-- ---- places of numbers
pub place_below : (id : ℕ) (ids : List ℕ) → Contains ids id → place_among id ids < length ids
place_below id [] there = absurd (omega (arith, there.1))
place_below id (n ∷ ns) there =
    elim (cases_Bool (id == n)) [
      | inl here ↦ rw here (omega arith)
      | inr other ↦ elim (there_cases n ns id there) [
        | inl same ↦ absurd (eqb-false id n other (sym same))
        | inr later ↦ let rest = place_below id ns later in rw other (omega (arith, rest))
      ]
    ]

pub place_alone : (a b : ℕ) (ids : List ℕ) → Contains ids a → place_among a ids ≡ place_among b ids → a ≡ b
place_alone a b [] there same = absurd (omega (arith, there.1))
place_alone a b (n ∷ ns) there same =
    elim (cases_Bool (a == n)) [
      | inl a_here ↦ elim (cases_Bool (b == n)) [
        | inl b_here ↦ eqb-true a n a_here ∙ sym (eqb-true b n b_here)
        | inr b_other ↦ let e : 0 ≡ suc (place_among b ns) = rw (a_here, b_other) at same in absurd (omega (arith, e))
      ]
      | inr a_other ↦ elim (cases_Bool (b == n)) [
        | inl b_here ↦ let e : suc (place_among a ns) ≡ 0 = rw (a_other, b_here) at same in absurd (omega (arith, e))
        | inr b_other ↦
            let e : suc (place_among a ns) ≡ suc (place_among b ns) = rw (a_other, b_other) at same in
            place_alone a b ns (elim (there_cases n ns a there) [ inl is ↦ absurd (eqb-false a n a_other (sym is)) | inr later ↦ later ]) (omega (arith, e))
      ]
    ]

-- places go up by one
pub places_ascend : (k : ℕ) (ids : List ℕ) → NumbersOnce ids → Ascends k (map (λ id. k + place_among id ids) ids)
unfolding Ascends Once
places_ascend k [] once = tt
places_ascend k (n ∷ ns) once =
    let own : (n == n) ≡ true = eq-eqb n n refl in (
      rw own (omega arith),
      subst (Ascends (suc k))
          (map_same (λ id. suc k + place_among id ns) (λ id. k + place_among id (n ∷ ns)) ns (λ id there.
          let differs : (id == n) ≡ false = false_from_ne_true (id == n) (λ same. not_there n ns once.0 (subst (λ (m : ℕ). Contains ns m) (eqb-true id n same) there)) in
          rw differs (omega arith)))
          (places_ascend (suc k) ns once.1),
    )

-- ---- places that are all taken
pub placed_all : (is_used : ℕ → Bool) (ns beyond : List ℕ) → ((n : ℕ) → Contains ns n → is_used n ≡ true) → placed is_used ns beyond ≡ ns
placed_all is_used [] beyond all = refl
placed_all is_used (n ∷ ns) beyond all =
    rw (all n (first_there n ns)) (ap (λ ms. n ∷ ms) (placed_all is_used ns beyond (λ m there. all m (later_there n ns m there))))

-- ---- numbers that grow by one at most
-- each is at most the highest so far, or the next one
unfoldable pub Steps : ℕ → List ℕ → Type 0
Steps t [] = Unit {0}
Steps t (b ∷ bs) = ((b ≤ t) × Steps t bs) ⊎ ((b ≡ suc t) × Steps (suc t) bs)

pub steps_over : (t : ℕ) (bs rest : List ℕ) → ((b : ℕ) → Contains bs b → b ≤ t) → Steps t rest → Steps t (bs ++ rest)
unfolding Steps
steps_over t [] rest low steps = steps
steps_over t (b ∷ bs) rest low steps = inl (low b (first_there b bs), steps_over t bs rest (λ d there. low d (later_there b bs d there)) steps)

pub steps_up : (t b : ℕ) (bs rest : List ℕ) → ((d : ℕ) → Contains (b ∷ bs) d → d ≡ suc t) → Steps (suc t) rest → Steps t ((b ∷ bs) ++ rest)
unfolding Steps
steps_up t b bs rest same steps =
    inr (same b (first_there b bs), steps_over (suc t) bs rest (λ d there. let is = same d (later_there b bs d there) in omega (arith, is)) steps)

pub map_there : {X Y : Type 0} (f : X → Y) (xs : List X) (y : Y) → Contains (map f xs) y → (x : X) × Contains xs x × (f x ≡ y)
map_there f [] y there = absurd (omega (arith, there.1))
map_there f (x ∷ xs) y there =
    elim (there_cases (f x) (map f xs) y there) [
      | inl same ↦ (x, first_there x xs, same)
      | inr later ↦ let w = map_there f xs y later in (w.0, later_there x xs w.0 w.1, w.2)
    ]

-- ---- rules bearer by bearer
-- each rule on these bearers has the next number
unfoldable pub Fits : Setting → Journal → (Active → ℕ) → ℕ → List ℕ → Type 0
Fits p j f k [] = Unit {0}
Fits p j f k (id ∷ ids) = ((r : Active) → Contains (rules_on p j id) r → f r ≡ k) × Fits p j f (suc k) ids

-- the rules with one number after the other
abbrev pub each : (Active → ℕ) → List Active → List ℕ → List Active
each f rules [] = []
each f rules (k ∷ ks) = filter (λ r. f r == k) rules ++ each f rules ks

fits_from : (p : Setting) (j : Journal) (f : Active → ℕ) (k : ℕ) (ids : List ℕ) (r : Active) → Fits p j f k ids → Contains (rules_on_each p j ids) r → k ≤ f r
unfolding Fits
fits_from p j f k [] r fits there = absurd (omega (arith, there.1))
fits_from p j f k (id ∷ ids) r fits there =
    elim (Contains-append_cases (rules_on p j id) (rules_on_each p j ids) r there) [
      | inl here ↦ let is = fits.0 r here in omega (arith, is)
      | inr later ↦ let rest = fits_from p j f (suc k) ids r fits.1 later in omega (arith, rest)
    ]

-- those that stand so already stay in their order
pub regrouped : (p : Setting) (j : Journal) (f : Active → ℕ) (front : List Active) (k : ℕ) (ids ks : List ℕ) → Fits p j f k ids → Ascends k ks → length ks ≡ length ids →
    ((r : Active) → Contains front r → f r < k) → each f (front ++ rules_on_each p j ids) ks ≡ rules_on_each p j ids
unfolding Ascends Fits
regrouped p j f front k [] [] fits up same low = refl
regrouped p j f front k [] (y ∷ ks) fits up same low = absurd (omega (arith, same))
regrouped p j f front k (id ∷ ids) [] fits up same low = absurd (omega (arith, same))
regrouped p j f front k (id ∷ ids) (y ∷ ks) fits up same low =
    let own : List Active = rules_on p j id in
    let rest : List Active = rules_on_each p j ids in
    let test : Active → Bool = λ r. f r == y in
    let is : y ≡ k = up.0 in
    let apart : (r : Active) → (f r ≡ y → ⊥) → test r ≡ false = (λ r differs. false_from_ne_true (f r == y) (λ same. differs (eqb-true (f r) y same))) in
    let before : filter test front ≡ [] = filter_gone test front (λ r there. apart r (λ same. let less = low r there in absurd (omega (arith, less, same, is)))) in
    let here : filter test own ≡ own = filter_kept test own (λ r there. eq-eqb (f r) y (fits.0 r there ∙ sym is)) in
    let behind : filter test rest ≡ [] = filter_gone test rest (λ r there. apart r (λ same. let more = fits_from p j f (suc k) ids r fits.1 there in absurd (omega (arith, more, same, is)))) in
    let all : filter test (front ++ (own ++ rest)) ≡ own =
    filter-append test front (own ++ rest) ∙ ap (λ rs. rs ++ filter test (own ++ rest)) before ∙ filter-append test own rest
    ∙ ap₂ (λ xs ys. xs ++ ys) here behind ∙ append-nil own in
    ap₂ (λ xs ys. xs ++ ys) all
    (ap (λ rs. each f rs ks) (sym (append_assoc front own rest))
    ∙ regrouped p j f (front ++ own) (suc k) ids ks fits.1 up.1 (omega (arith, same)) (λ r there. elim (Contains-append_cases front own r there) [
      | inl old ↦ let less = low r old in omega (arith, less)
      | inr new ↦ let now_is = fits.0 r new in omega (arith, now_is)
    ]))
