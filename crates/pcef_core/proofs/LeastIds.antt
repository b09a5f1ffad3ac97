-- The id that is free is the least one.
use Rattle.std.proofs.Common.{rules, ◌≡◌, ◌≢◌, ◌∙◌, ◌≤◌, ◌<◌, ◌==◌, ℕ, suc, Bool, true, false, not, List, [], ◌∷◌, Some, All, Contains, find, refl, sym, ap, arith, inl, inr}
use Rattle.std.specs.List.{list_any}
use Rattle.std.proofs.lemmas.Bool.{cases_Bool, eq-eqb, eqb-true}
use Rattle.std.proofs.lemmas.List.Elements.{All-from_recursion}
use Rattle.pcef_base.proofs.Found.{any_from, found_is, found_passes}
use Rattle.pcef_base.proofs.Tests.{contrary}
use Rattle.pcef_model.specs.ActiveRules.{Active}
use Rattle.pcef_model.specs.Bearers.{other_ids}
use Rattle.pcef_model.specs.Generations.{Generation, free_id, has_bearer, kept}
use Rattle.pcef_model.specs.Setting.{Setting}
use Rattle.pcef_model.proofs.Members.{filter_from, filter_to, first_there, later_there}
use Rattle.pcef_core.specs.Bearing.{IsLeastFree}

-- ---- lists that go up by one
unfoldable Ascends : ℕ → List ℕ → Type 0
Ascends k [] = Unit {0}
Ascends k (x ∷ xs) = (x ≡ k) × Ascends (suc k) xs

apart : (a b : ℕ) → (a == b) ≡ false → a ≢ b
apart a b differ same = contrary (a == b) (eq-eqb a b same) differ

-- what stands before the first that passes doesn't pass
fails_before : (test : ℕ → Bool) (k : ℕ) (xs : List ℕ) (x n : ℕ) → Ascends k xs → find test xs ≡ Some x → k ≤ n → n < x → test n ≡ false
unfolding Ascends
fails_before test k [] x n up found low high = absurd cc
fails_before test k (y ∷ ys) x n up found low high = from (test y) refl (λ rest above. fails_before test (suc k) ys x n up.1 rest above high)
  where
    from : (b : Bool) → test y ≡ b → (find test ys ≡ Some x → suc k ≤ n → test n ≡ false) → test n ≡ false
    from true passes later =
        let same : y ≡ x = (let e : Some y ≡ Some x = rw passes at found in cc) in
        absurd (omega (arith, same, up.0, low, high))
    from false fails later =
        let rest : find test ys ≡ Some x = rw fails at found in
        elim (cases_Bool (n == k)) [
          | inl here ↦ let is : n ≡ y = eqb-true n k here ∙ sym up.0 in ap test is ∙ fails
          | inr other ↦ later rest (omega (arith, low, apart n k other))
        ]

-- one that passes, where some do
some_passes : {X : Type 0} (test : X → Bool) (xs : List X) → list_any test xs ≡ true → (x : X) × Contains xs x × (test x ≡ true)
some_passes test [] is = absurd cc
some_passes {X} test (y ∷ ys) is = from (test y) refl (some_passes test ys)
  where
    from : (b : Bool) → test y ≡ b → (list_any test ys ≡ true → (x : X) × Contains ys x × (test x ≡ true)) → (x : X) × Contains (y ∷ ys) x × (test x ≡ true)
    from true here later = (y, first_there y ys, here)
    from false other later =
        let rest : list_any test ys ≡ true = rw other at is in
        let found = later rest in (found.0, later_there y ys found.0 found.1, found.2)

-- ---- ids
they_ascend : Ascends 6 other_ids
unfolding Ascends
they_ascend = (refl, (refl, (refl, (refl, (refl, (refl, (refl, (refl, (refl, (refl, tt))))))))))

they_are_in_range : All (λ (n : ℕ). (6 ≤ n) × (n ≤ 15)) other_ids
they_are_in_range = All-from_recursion (λ (n : ℕ). (6 ≤ n) × (n ≤ 15)) other_ids (search rules)

abbrev taken : Setting → Generation → List Active → ℕ → Bool
taken p g rules n = list_any (λ (r : Active). n == g.id_of r.properties.qos) (kept p g rules)

was_taken : (b : Bool) → not b ≡ false → b ≡ true
was_taken true is = refl
was_taken false is = absurd cc

wasnt_taken : (b : Bool) → not b ≡ true → b ≡ false
wasnt_taken true is = absurd cc
wasnt_taken false is = refl

pub least_free : (p : Setting) (g : Generation) (rules : List Active) (id : ℕ) → free_id p g rules ≡ Some id → IsLeastFree p g rules id
least_free p g rules id found =
    let test : ℕ → Bool = λ n. not (taken p g rules n) in
    let range : (6 ≤ id) × (id ≤ 15) =
    found_is (λ (n : ℕ). (6 ≤ n) × (n ≤ 15)) test other_ids id they_are_in_range found in
    let unused : taken p g rules id ≡ false = wasnt_taken (taken p g rules id) (found_passes test other_ids id found) in
    record {
      from = range.0;
      to = range.1;
      free = λ r keeps same.
          let there = filter_to (λ (s : Active). has_bearer p g.rules s.properties.qos) rules r keeps.0 keeps.1 in
          contrary (taken p g rules id) (any_from (λ (s : Active). id == g.id_of s.properties.qos) (kept p g rules) r there (eq-eqb id (g.id_of r.properties.qos) (sym same))) unused;
      least = λ n low high.
          let used : taken p g rules n ≡ true =
          was_taken (taken p g rules n) (fails_before test 6 other_ids id n they_ascend found low high) in
          let one = some_passes (λ (s : Active). n == g.id_of s.properties.qos) (kept p g rules) used in
          let there = filter_from (λ (s : Active). has_bearer p g.rules s.properties.qos) rules one.0 one.1 in
          (one.0, there, sym (eqb-true n (g.id_of one.0.properties.qos) one.2));
    }
