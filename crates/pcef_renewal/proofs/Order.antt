-- The rules in the order of a renewal are active, and each is there once.
use Rattle.std.proofs.Common.{◌≡◌, ◌∙◌, ◌≤◌, ◌<◌, ◌+◌, ◌==◌, ℕ, suc, zero, Bool, true, false, List, [], ◌∷◌, Contains, filter, length, nat_lt, take, refl, sym, ap, subst, arith, inl, inr}
use Rattle.std.specs.Prelude.{◌⊎◌}
use Rattle.std.specs.List.{list_any}
use Rattle.std.proofs.lemmas.Bool.{cases_Bool, cases_order, eqb-false, eqb-true, false_from_ne_true, ltb-true}
use Rattle.std.proofs.lemmas.List.Elements.{Contains-append_cases}
use Rattle.pcef_base.proofs.Tests.{contrary}
use Rattle.pcef_model.specs.ActiveRules.{Active, is_named}
use Rattle.pcef_model.specs.Bearers.{default_id, other_ids}
use Rattle.pcef_model.specs.Entries.{Journal}
use Rattle.pcef_model.specs.Journals.{now, tables}
use Rattle.pcef_model.specs.Named.{has_name}
use Rattle.pcef_model.specs.Refusals.{is_bearer}
use Rattle.pcef_model.specs.Setting.{Setting, same_name}
use Rattle.pcef_model.proofs.BoundRules.{NamesOnce}
use Rattle.pcef_model.proofs.Decisive.{made_once, once_is}
use Rattle.pcef_model.proofs.Members.{filter_from, first_there, later_there, there_cases}
use Rattle.pcef_model.proofs.Names.{Once, filter_once}
use Rattle.pcef_model.proofs.Sameness.{same_name_is, same_name_self}
use Rattle.pcef_renewal.specs.Renewal.{bearers_used, placed, places, rules_in_order, rules_on, rules_on_each}
use Rattle.pcef_renewal.proofs.Fitting.{none_at, once_append}

-- ---- tests that some pass
pub some_there : {X : Type 0} (test : X → Bool) (xs : List X) → list_any test xs ≡ true → (x : X) × Contains xs x × (test x ≡ true)
some_there test [] is = absurd cc
some_there test (y ∷ ys) is =
    elim (cases_Bool (test y)) [
      | inl here ↦ (y, first_there y ys, here)
      | inr other ↦ let w = some_there test ys (rw other at is) in (w.0, later_there y ys w.0 w.1, w.2)
    ]

-- ---- numbers, each once
abbrev pub alone : ℕ → List ℕ
alone n = n ∷ []

abbrev pub NumbersOnce : List ℕ → Type 0
NumbersOnce ns = Once alone ns

pub absent_number : (n : ℕ) (ns : List ℕ) → (Contains ns n → ⊥) → list_any (has_name alone (alone n)) ns ≡ false
absent_number n ns away =
    false_from_ne_true (list_any (has_name alone (alone n)) ns) (λ is.
    let w = some_there (has_name alone (alone n)) ns is in
    let same : alone w.0 ≡ alone n = same_name_is (alone w.0) (alone n) w.2 in
    let is_n : w.0 ≡ n = cc in
    away (subst (λ (m : ℕ). Contains ns m) is_n w.1))

pub not_there : (n : ℕ) (ns : List ℕ) → list_any (has_name alone (alone n)) ns ≡ false → Contains ns n → ⊥
not_there n ns absent there =
    contrary (same_name (alone n) (alone n)) (same_name_self (alone n)) (none_at (has_name alone (alone n)) ns n absent there)

-- ---- the first of a list
pub of_first : {X : Type 0} (n : ℕ) (xs : List X) (x : X) → Contains (take n xs) x → Contains xs x
of_first n [] x there = of_none n x there
  where
    of_none : {X : Type 0} (n : ℕ) (x : X) → Contains (take n []) x → Contains [] x
    of_none zero x there = there
    of_none (suc n) x there = there
of_first zero (y ∷ xs) x there = absurd (omega (arith, there.1))
of_first (suc n) (y ∷ xs) x there =
    elim (there_cases y (take n xs) x there) [
      | inl same ↦ (0, omega arith, same)
      | inr later ↦ later_there y xs x (of_first n xs x later)
    ]

pub first_once : (n : ℕ) (ns : List ℕ) → NumbersOnce ns → NumbersOnce (take n ns)
unfolding Once
first_once zero [] once = tt
first_once (suc n) [] once = tt
first_once zero (m ∷ ns) once = tt
first_once (suc n) (m ∷ ns) once = (absent_number m (take n ns) (λ there. not_there m ns once.0 (of_first n ns m there)), first_once n ns once.1)

-- numbers that go up by one
unfoldable pub Ascends : ℕ → List ℕ → Type 0
Ascends k [] = Unit {0}
Ascends k (x ∷ xs) = (x ≡ k) × Ascends (suc k) xs

pub first_below : (k n : ℕ) (xs : List ℕ) (x : ℕ) → Ascends k xs → Contains (take n xs) x → x < k + n
unfolding Ascends
first_below k zero [] x up there = absurd (omega (arith, there.1))
first_below k (suc n) [] x up there = absurd (omega (arith, there.1))
first_below k zero (y ∷ xs) x up there = absurd (omega (arith, there.1))
first_below k (suc n) (y ∷ xs) x up there =
    elim (there_cases y (take n xs) x there) [
      | inl same ↦ let is : y ≡ k = up.0 in omega (arith, same, is)
      | inr later ↦ let rest = first_below (suc k) n xs x up.1 later in omega (arith, rest)
    ]

pub ascends_from : (k : ℕ) (xs : List ℕ) (x : ℕ) → Ascends k xs → Contains xs x → k ≤ x
unfolding Ascends
ascends_from k [] x up there = absurd (omega (arith, there.1))
ascends_from k (y ∷ xs) x up there =
    elim (there_cases y xs x there) [
      | inl same ↦ let is : y ≡ k = up.0 in omega (arith, same, is)
      | inr later ↦ let rest = ascends_from (suc k) xs x up.1 later in omega (arith, rest)
    ]

ascends_once : (k : ℕ) (xs : List ℕ) → Ascends k xs → NumbersOnce xs
unfolding Ascends Once
ascends_once k [] up = tt
ascends_once k (y ∷ xs) up = (
  absent_number y xs (λ there. let more = ascends_from (suc k) xs y up.1 there in let is : y ≡ k = up.0 in absurd (omega (arith, more, is))),
  ascends_once (suc k) xs up.1,
)

ascends_all : (k : ℕ) (xs : List ℕ) (n : ℕ) → Ascends k xs → k ≤ n → n < k + length xs → Contains xs n
unfolding Ascends
ascends_all k [] n up low high = absurd (omega (arith, low, high))
ascends_all k (y ∷ xs) n up low high =
    let is : y ≡ k = up.0 in
    elim (cases_Bool (n == k)) [
      | inl here ↦ let same : n ≡ k = eqb-true n k here in (0, omega arith, is ∙ sym same)
      | inr other ↦
          let apart = eqb-false n k other in
          later_there y xs n (ascends_all (suc k) xs n up.1 (below n k low apart) (omega (arith, high)))
    ]
  where
    below : (n k : ℕ) → k ≤ n → (n ≡ k → ⊥) → suc k ≤ n
    below n k low apart = elim (cases_order n k) [
      | inl same ↦ absurd (apart same)
      | inr differ ↦ elim differ [ inl less ↦ absurd (omega (arith, less, low)) | inr more ↦ omega (arith, more) ]
    ]

pub others_ascend : Ascends 6 other_ids
unfolding Ascends
others_ascend = (refl, (refl, (refl, (refl, (refl, (refl, (refl, (refl, (refl, (refl, tt))))))))))

pub others_once : NumbersOnce other_ids
others_once = ascends_once 6 other_ids others_ascend

pub others_from : (n : ℕ) → Contains other_ids n → 6 ≤ n
others_from n there = ascends_from 6 other_ids n others_ascend there

pub others_all : (n : ℕ) → 6 ≤ n → n ≤ 15 → Contains other_ids n
others_all n low high = ascends_all 6 other_ids n others_ascend low (omega (arith, high))

-- ---- places
-- one that is placed has its own number, or is one of those beyond
placed_there : (is_used : ℕ → Bool) (ns beyond : List ℕ) (x : ℕ) → Contains (placed is_used ns beyond) x → (Contains ns x × (is_used x ≡ true)) ⊎ Contains beyond x
placed_there is_used [] beyond x there = absurd (omega (arith, there.1))
placed_there is_used (n ∷ ns) [] x there =
    elim (cases_Bool (is_used n)) [
      | inl used ↦ elim (there_cases n (placed is_used ns []) x (rw used at there)) [
        | inl same ↦ inl ((0, omega arith, same), ap is_used (sym same) ∙ used)
        | inr later ↦ elim (placed_there is_used ns [] x later) [ inl one ↦ inl (later_there n ns x one.0, one.1) | inr other ↦ inr other ]
      ]
      | inr free ↦ elim (placed_there is_used ns [] x (rw free at there)) [ inl one ↦ inl (later_there n ns x one.0, one.1) | inr other ↦ inr other ]
    ]
placed_there is_used (n ∷ ns) (b ∷ beyond) x there =
    elim (cases_Bool (is_used n)) [
      | inl used ↦ elim (there_cases n (placed is_used ns (b ∷ beyond)) x (rw used at there)) [
        | inl same ↦ inl ((0, omega arith, same), ap is_used (sym same) ∙ used)
        | inr later ↦ elim (placed_there is_used ns (b ∷ beyond) x later) [ inl one ↦ inl (later_there n ns x one.0, one.1) | inr other ↦ inr other ]
      ]
      | inr free ↦ elim (there_cases b (placed is_used ns beyond) x (rw free at there)) [
        | inl same ↦ inr (0, omega arith, same)
        | inr later ↦ elim (placed_there is_used ns beyond x later) [
          | inl one ↦ inl (later_there n ns x one.0, one.1)
          | inr other ↦ inr (later_there b beyond x other)
        ]
      ]
    ]

abbrev Apart : List ℕ → List ℕ → Type 0
Apart ns ms = (x : ℕ) → Contains ns x → Contains ms x → ⊥

placed_once : (is_used : ℕ → Bool) (ns beyond : List ℕ) → NumbersOnce ns → NumbersOnce beyond → Apart ns beyond → NumbersOnce (placed is_used ns beyond)
unfolding Once
placed_once is_used [] beyond one other apart = tt
placed_once is_used (n ∷ ns) [] one other apart =
    let rest = placed_once is_used ns [] one.1 other (λ x here there. apart x (later_there n ns x here) there) in
    elim (cases_Bool (is_used n)) [
      | inl used ↦ rw used (
        absent_number n (placed is_used ns []) (λ there. elim (placed_there is_used ns [] n there) [
          | inl again ↦ not_there n ns one.0 again.0
          | inr none ↦ apart n (first_there n ns) none
        ]),
        rest,
      )
      | inr free ↦ rw free rest
    ]
placed_once is_used (n ∷ ns) (b ∷ beyond) one other apart =
    let own = placed_once is_used ns (b ∷ beyond) one.1 other (λ x here there. apart x (later_there n ns x here) there) in
    let next = placed_once is_used ns beyond one.1 other.1 (λ x here there. apart x (later_there n ns x here) (later_there b beyond x there)) in
    elim (cases_Bool (is_used n)) [
      | inl used ↦ rw used (
        absent_number n (placed is_used ns (b ∷ beyond)) (λ there. elim (placed_there is_used ns (b ∷ beyond) n there) [
          | inl again ↦ not_there n ns one.0 again.0
          | inr behind ↦ apart n (first_there n ns) behind
        ]),
        own,
      )
      | inr free ↦ rw free (
        absent_number b (placed is_used ns beyond) (λ there. elim (placed_there is_used ns beyond b there) [
          | inl here ↦ apart b (later_there n ns b here.0) (first_there b beyond)
          | inr again ↦ not_there b beyond other.0 again
        ]),
        next,
      )
    ]

-- ---- the places of bearers
pub places_there : (p : Setting) (j : Journal) (x : ℕ) → Contains (places p j) x → Contains other_ids x
places_there p j x there =
    let used : List ℕ = bearers_used p j in
    elim (placed_there (λ id. is_bearer p j id) (take (length used) other_ids) (filter (λ id. nat_lt (default_id + length used) id) used) x there) [
      | inl kept ↦ of_first (length used) other_ids x kept.0
      | inr beyond ↦ (filter_from (λ id. is_bearer p j id) other_ids x (filter_from (λ id. nat_lt (default_id + length used) id) used x beyond).0).0
    ]

-- each is that of some rule
pub places_used : (p : Setting) (j : Journal) (x : ℕ) → Contains (places p j) x → is_bearer p j x ≡ true
places_used p j x there =
    let used : List ℕ = bearers_used p j in
    elim (placed_there (λ id. is_bearer p j id) (take (length used) other_ids) (filter (λ id. nat_lt (default_id + length used) id) used) x there) [
      | inl kept ↦ kept.1
      | inr beyond ↦ (filter_from (λ id. is_bearer p j id) other_ids x (filter_from (λ id. nat_lt (default_id + length used) id) used x beyond).0).1
    ]

places_once : (p : Setting) (j : Journal) → NumbersOnce (places p j)
places_once p j =
    let used : List ℕ = bearers_used p j in
    placed_once (λ id. is_bearer p j id) (take (length used) other_ids) (filter (λ id. nat_lt (default_id + length used) id) used)
    (first_once (length used) other_ids others_once)
    (filter_once alone (λ id. nat_lt (default_id + length used) id) used (filter_once alone (λ id. is_bearer p j id) other_ids others_once))
    (λ x kept beyond.
    let low = first_below 6 (length used) other_ids x others_ascend kept in
    let high = ltb-true (default_id + length used) x (filter_from (λ id. nat_lt (default_id + length used) id) used x beyond).1 in
    absurd (omega (arith, low, high)))

pub all_once : (p : Setting) (j : Journal) → NumbersOnce (default_id ∷ places p j)
unfolding Once
all_once p j = (absent_number default_id (places p j) (λ there. let more = others_from default_id (places_there p j default_id there) in absurd (omega (arith, more))), places_once p j)

-- ---- rules bearer by bearer
each_there : (p : Setting) (j : Journal) (ids : List ℕ) (r : Active) → Contains (rules_on_each p j ids) r →
    Contains (now p j).rules r × Contains ids ((now p j).id_of r.properties.qos)
each_there p j [] r there = absurd (omega (arith, there.1))
each_there p j (id ∷ ids) r there =
    elim (Contains-append_cases (rules_on p j id) (rules_on_each p j ids) r there) [
      | inl here ↦
          let w = filter_from (λ (s : Active). (now p j).id_of s.properties.qos == id) (now p j).rules r here in
          (w.0, (0, omega arith, sym (eqb-true ((now p j).id_of r.properties.qos) id w.1)))
      | inr later ↦ let w = each_there p j ids r later in (w.0, later_there id ids ((now p j).id_of r.properties.qos) w.1)
    ]

each_once : (p : Setting) (j : Journal) (ids : List ℕ) → NumbersOnce ids → NamesOnce (rules_on_each p j ids)
unfolding Once
each_once p j [] once = tt
each_once p j (id ∷ ids) once =
    let names = made_once p (tables j) in
    once_append (λ (r : Active). r.properties.name) (rules_on p j id) (rules_on_each p j ids)
    (filter_once (λ (r : Active). r.properties.name) (λ (r : Active). (now p j).id_of r.properties.qos == id) (now p j).rules names)
    (each_once p j ids once.1)
    (λ r there. false_from_ne_true (list_any (is_named r.properties.name) (rules_on_each p j ids)) (λ again.
    let w = some_there (is_named r.properties.name) (rules_on_each p j ids) again in
    let own = filter_from (λ (s : Active). (now p j).id_of s.properties.qos == id) (now p j).rules r there in
    let other = each_there p j ids w.0 w.1 in
    let same : r ≡ w.0 = once_is (now p j).rules r w.0 names own.0 other.0 (sym (same_name_is w.0.properties.name r.properties.name w.2)) in
    let id_is : (now p j).id_of w.0.properties.qos ≡ id = ap (λ (s : Active). (now p j).id_of s.properties.qos) (sym same) ∙ eqb-true ((now p j).id_of r.properties.qos) id own.1 in
    not_there id ids once.0 (subst (λ (n : ℕ). Contains ids n) id_is other.1)))

pub order_there : (p : Setting) (j : Journal) (r : Active) → Contains (rules_in_order p j) r → Contains (now p j).rules r
order_there p j r there = (each_there p j (default_id ∷ places p j) r there).0

pub order_once : (p : Setting) (j : Journal) → NamesOnce (rules_in_order p j)
order_once p j = each_once p j (default_id ∷ places p j) (all_once p j)
