-- Each bearer of the one session is some bearer of the other, as long as both go on.
use Rattle.std.proofs.Common.{◌≡◌, ◌∙◌, ◌≤◌, ◌==◌, ◌||◌, ℕ, Bool, true, false, List, [], ◌∷◌, Contains, Some, None, find, refl, sym, ap, arith, inl, inr}
use Rattle.std.specs.Prelude.{Option}
use Rattle.std.specs.List.{list_any}
use Rattle.std.proofs.lemmas.Bool.{cases_Bool, eq-eqb, eqb-true, false_from_ne_true, or_cases}
use Rattle.std.proofs.lemmas.List.Elements.{All-contains}
use Rattle.pcef_base.proofs.Foremost.{none_passes}
use Rattle.pcef_base.proofs.Found.{found_passes}
use Rattle.pcef_base.proofs.Tests.{contrary}
use Rattle.pcef_rule.specs.declared.quantity.Qos.{Qos}
use Rattle.pcef_model.specs.ActiveRules.{Active}
use Rattle.pcef_model.specs.Bearers.{default_id}
use Rattle.pcef_model.specs.Entries.{Journal}
use Rattle.pcef_model.specs.Generations.{Generation, has_bearer}
use Rattle.pcef_model.specs.Journals.{now}
use Rattle.pcef_model.specs.Lawful.{Lawful}
use Rattle.pcef_model.specs.Setting.{Setting, same_qos}
use Rattle.pcef_model.proofs.BearerIds.{IsBound, lawful_bound}
use Rattle.pcef_model.proofs.Members.{later_there}
use Rattle.pcef_model.proofs.Sameness.{same_qos_is}
use Rattle.pcef_renewal.specs.Alike.{Alike, Renumbers, number_in, number_of}
use Rattle.pcef_renewal.proofs.FreeBearers.{has_own}
use Rattle.pcef_renewal.proofs.Likeness.{same_any}
use Rattle.pcef_renewal.proofs.Order.{some_there}

-- two tests that hold together
same_tests : (a b : Bool) → (a ≡ true → b ≡ true) → (b ≡ true → a ≡ true) → a ≡ b
same_tests a b to back = elim (cases_Bool b) [ inl is ↦ back is ∙ sym is | inr isnt ↦ false_from_ne_true a (λ is. contrary b (to is) isnt) ∙ sym isnt ]

found_there : {X : Type 0} (t : X → Bool) (xs : List X) (x : X) → find t xs ≡ Some x → Contains xs x
found_there t [] x found = absurd cc
found_there t (y ∷ xs) x found =
    elim (cases_Bool (t y)) [
      | inl is ↦ let same : y ≡ x = (let e : Some y ≡ Some x = rw is at found in cc) in (0, omega arith, same)
      | inr isnt ↦ later_there y xs x (found_there t xs x (rw isnt at found))
    ]

-- a pair with the number of the default bearer is the default one
five_is : (p : Setting) (g : Generation) → IsBound p g → (q : Qos) → has_bearer p g.rules q ≡ true → g.id_of q ≡ default_id → same_qos q p.default_qos ≡ true
five_is p g bound q has five =
    elim (cases_Bool (same_qos q p.default_qos)) [
      | inl is ↦ is
      | inr isnt ↦ let range = bound.others q has isnt in absurd (omega (arith, range.0, five))
    ]

some_number : (p : Setting) (g : Generation) → IsBound p g → (q : Qos) → has_bearer p g.rules q ≡ true → 5 ≤ g.id_of q
some_number p g bound q has =
    elim (cases_Bool (same_qos q p.default_qos)) [
      | inl is ↦ let five = bound.five q is in omega (arith, five)
      | inr isnt ↦ let range = bound.others q has isnt in omega (arith, range.0)
    ]

module _ (p : Setting) (j k : Journal) (lawful_j : Lawful p j) (lawful_k : Lawful p k) (alike : Alike p j k) (q : Qos) (has : has_bearer p (now p j).rules q ≡ true) where
  abbrev bound_j : IsBound p (now p j)
  bound_j = lawful_bound p j lawful_j

  abbrev bound_k : IsBound p (now p k)
  bound_k = lawful_bound p k lawful_k

  has_k : has_bearer p (now p k).rules q ≡ true
  has_k =
      ap (λ b. same_qos q p.default_qos || b) (same_any (λ (r : Active). same_qos q r.properties.qos) (now p k).rules (now p j).rules (λ r. (alike.rules r).1) (λ r. (alike.rules r).0))
      ∙ has

  -- the default bearer
  default_called : ((now p k).id_of q == default_id) ≡ ((now p j).id_of q == default_id)
  default_called =
      same_tests ((now p k).id_of q == default_id) ((now p j).id_of q == default_id)
      (λ is. eq-eqb ((now p j).id_of q) default_id (bound_j.five q (five_is p (now p k) bound_k q has_k (eqb-true ((now p k).id_of q) default_id is))))
      (λ is. eq-eqb ((now p k).id_of q) default_id (bound_k.five q (five_is p (now p j) bound_j q has (eqb-true ((now p j).id_of q) default_id is))))

  -- another, found by a rule on it
  abbrev on : ℕ → Active → Bool
  on id r = (now p j).id_of r.properties.qos == id

  rule_called : (id : ℕ) (r : Active) → Contains (now p j).rules r → on id r ≡ true → ((now p k).id_of q == (now p k).id_of r.properties.qos) ≡ ((now p j).id_of q == id)
  rule_called id r there is =
      let own : (now p j).id_of r.properties.qos ≡ id = eqb-true ((now p j).id_of r.properties.qos) id is in
      same_tests ((now p k).id_of q == (now p k).id_of r.properties.qos) ((now p j).id_of q == id)
      (λ same.
      let pair = bound_k.distinct q r.properties.qos has_k (has_own p (now p k).rules r ((alike.rules r).0 there)) (eqb-true ((now p k).id_of q) ((now p k).id_of r.properties.qos) same) in
      eq-eqb ((now p j).id_of q) id (ap (now p j).id_of pair ∙ own))
      (λ same.
      let pair = bound_j.distinct q r.properties.qos has (has_own p (now p j).rules r there) (eqb-true ((now p j).id_of q) id same ∙ sym own) in
      eq-eqb ((now p k).id_of q) ((now p k).id_of r.properties.qos) (ap (now p k).id_of pair))

  -- a number that no rule is on
  none_called : (id : ℕ) → (id == default_id) ≡ false → find (on id) (now p j).rules ≡ None → ((now p k).id_of q == 0) ≡ ((now p j).id_of q == id)
  none_called id isnt none =
      same_tests ((now p k).id_of q == 0) ((now p j).id_of q == id)
      (λ zero. let more = some_number p (now p k) bound_k q has_k in let is = eqb-true ((now p k).id_of q) 0 zero in absurd (omega (arith, more, is)))
      (λ same.
      let is : (now p j).id_of q ≡ id = eqb-true ((now p j).id_of q) id same in
      elim (or_cases (same_qos q p.default_qos) (list_any (λ (r : Active). same_qos q r.properties.qos) (now p j).rules) has) [
        | inl default ↦ contrary (id == default_id) (eq-eqb id default_id (sym is ∙ bound_j.five q default)) isnt
        | inr some ↦
            let w = some_there (λ (r : Active). same_qos q r.properties.qos) (now p j).rules some in
            let own : on id w.0 ≡ true = eq-eqb ((now p j).id_of w.0.properties.qos) id (ap (now p j).id_of (sym (same_qos_is q w.0.properties.qos w.2)) ∙ is) in
            contrary (on id w.0) own (All-contains (λ (r : Active). on id r ≡ false) (now p j).rules w.0 (none_passes (on id) (now p j).rules none) w.1)
      ])

  called : (id : ℕ) → ((now p k).id_of q == number_in p j k id) ≡ ((now p j).id_of q == id)
  called id =
      elim (cases_Bool (id == default_id)) [
        | inl is ↦ rw is (default_called ∙ ap (λ n. (now p j).id_of q == n) (sym (eqb-true id default_id is)))
        | inr isnt ↦ rw isnt (from (find (on id) (now p j).rules) refl isnt)
      ]
    where
      from : (o : Option Active) → find (on id) (now p j).rules ≡ o → (id == default_id) ≡ false → ((now p k).id_of q == number_of (now p k) o) ≡ ((now p j).id_of q == id)
      from None found isnt = none_called id isnt found
      from (Some r) found isnt = rule_called id r (found_there (on id) (now p j).rules r found) (found_passes (on id) (now p j).rules r found)

pub numbers_called : (p : Setting) (j k : Journal) → Lawful p j → Lawful p k → Alike p j k → Renumbers p j k (number_in p j k)
numbers_called p j k lawful_j lawful_k alike q has id = called p j k lawful_j lawful_k alike q has id
