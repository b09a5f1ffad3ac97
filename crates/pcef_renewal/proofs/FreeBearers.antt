-- Part of the active rules leaves a free bearer for each of the others.
use Rattle.std.proofs.Common.{◌≡◌, ◌∙◌, ◌==◌, ◌&&◌, ℕ, suc, Bool, true, false, not, List, [], ◌∷◌, Contains, Some, None, length, refl, sym, ap, subst, arith, inl, inr}
use Rattle.std.specs.Prelude.{Option, is_none}
use Rattle.std.specs.List.{list_any}
use Rattle.std.proofs.lemmas.Bool.{cases_Bool, eqb-true, false_from_ne_true, not-false, or_parts, or_right}
use Rattle.std.proofs.lemmas.List.Elements.{All-contains}
use Rattle.pcef_base.proofs.Found.{any_from}
use Rattle.pcef_base.proofs.Foremost.{none_passes}
use Rattle.pcef_base.proofs.Tests.{contrary}
use Rattle.pcef_rule.specs.declared.quantity.Qos.{Qos}
use Rattle.pcef_model.specs.ActiveRules.{Active}
use Rattle.pcef_model.specs.Bearers.{other_ids}
use Rattle.pcef_model.specs.Generations.{Generation, free_id, has_bearer, kept}
use Rattle.pcef_model.specs.Refusals.{finds_no_bearer}
use Rattle.pcef_model.specs.Setting.{Setting, same_qos}
use Rattle.pcef_model.proofs.BearerIds.{IsBound}
use Rattle.pcef_model.proofs.Members.{filter_from, first_there, later_there, there_cases}
use Rattle.pcef_model.proofs.Names.{Once}
use Rattle.pcef_model.proofs.Sameness.{same_qos_self}
use Rattle.pcef_renewal.proofs.Fitting.{no_longer}
use Rattle.pcef_renewal.proofs.Order.{NumbersOnce, absent_number, alone, not_there, others_all, others_from, others_once, some_there}

-- an active rule's pair has a bearer
pub has_own : (p : Setting) (rules : List Active) (r : Active) → Contains rules r → has_bearer p rules r.properties.qos ≡ true
has_own p rules r there =
    or_right (same_qos r.properties.qos p.default_qos) (list_any (λ (s : Active). same_qos r.properties.qos s.properties.qos) rules)
    (any_from (λ (s : Active). same_qos r.properties.qos s.properties.qos) rules r there (same_qos_self r.properties.qos))

module _ (p : Setting) (old new : Generation) (old_bound : IsBound p old) (new_bound : IsBound p new)
    (part : (r : Active) → Contains new.rules r → Contains old.rules r) where
  -- some rule of the part has one of these numbers now, and had this one
  abbrev Had : List ℕ → ℕ → Type 0
  Had ns i = (s : Active) × Contains new.rules s × Contains ns (new.id_of s.properties.qos) × (old.id_of s.properties.qos ≡ i)

  abbrev Has : ℕ → Type 0
  Has n = (s : Active) × Contains new.rules s × (new.id_of s.properties.qos ≡ n)

  -- one number before is one pair, and so one number now
  same_pair : (s t : Active) → Contains new.rules s → Contains old.rules t → old.id_of s.properties.qos ≡ old.id_of t.properties.qos → s.properties.qos ≡ t.properties.qos
  same_pair s t here there same =
      old_bound.distinct s.properties.qos t.properties.qos (has_own p old.rules s (part s here)) (has_own p old.rules t there) same

  -- as many numbers before as there are now
  pub numbers_before : (ns : List ℕ) → NumbersOnce ns → ((n : ℕ) → Contains ns n → Has n) →
      (ids : List ℕ) × (length ids ≡ length ns) × NumbersOnce ids × ((i : ℕ) → Contains ids i → Had ns i)
  unfolding Once
  numbers_before [] once has = ([], refl, tt, λ i there. absurd (omega (arith, there.1)))
  numbers_before (n ∷ ns) once has =
      let rest = numbers_before ns once.1 (λ m there. has m (later_there n ns m there)) in
      let s = has n (first_there n ns) in
      let id : ℕ = old.id_of s.0.properties.qos in
      let away : Contains rest.0 id → ⊥ =
      (λ there.
      let t = rest.3 id there in
      let pair = same_pair t.0 s.0 t.1 (part s.0 s.1) t.3 in
      let now_is : new.id_of t.0.properties.qos ≡ n = ap new.id_of pair ∙ s.2 in
      not_there n ns once.0 (subst (λ (m : ℕ). Contains ns m) now_is t.2)) in (
        id ∷ rest.0,
        ap suc rest.1,
        (absent_number id rest.0 away, rest.2),
        λ i there. elim (there_cases id rest.0 i there) [
          | inl same ↦ (s.0, s.1, subst (λ (m : ℕ). Contains (n ∷ ns) m) (sym s.2) (first_there n ns), same)
          | inr later ↦ let t = rest.3 i later in (t.0, t.1, later_there n ns (new.id_of t.0.properties.qos) t.2, t.3)
        ],
      )

  -- a number beside the default one was such a number before
  pub was_other : (s : Active) → Contains new.rules s → Contains other_ids (new.id_of s.properties.qos) → Contains other_ids (old.id_of s.properties.qos)
  was_other s there now_other =
      let isnt : same_qos s.properties.qos p.default_qos ≡ false =
      false_from_ne_true (same_qos s.properties.qos p.default_qos)
      (λ is. let five = new_bound.five s.properties.qos is in absurd (omega (arith, five, others_from (new.id_of s.properties.qos) now_other))) in
      let range = old_bound.others s.properties.qos (has_own p old.rules s (part s there)) isnt in
      others_all (old.id_of s.properties.qos) range.0 range.1

  all_taken : (r : Active) → Contains old.rules r → has_bearer p new.rules r.properties.qos ≡ false → ((n : ℕ) → Contains other_ids n → Has n) → ⊥
  unfolding Once
  all_taken r there fresh has =
      let before = numbers_before other_ids others_once has in
      let isnt = (or_parts (same_qos r.properties.qos p.default_qos) (list_any (λ (s : Active). same_qos r.properties.qos s.properties.qos) new.rules) fresh).0 in
      let range = old_bound.others r.properties.qos (has_own p old.rules r there) isnt in
      let id : ℕ = old.id_of r.properties.qos in
      let away : Contains before.0 id → ⊥ =
      (λ again.
      let t = before.3 id again in
      let pair = same_pair t.0 r t.1 there t.3 in
      contrary (has_bearer p new.rules r.properties.qos) (subst (λ (q : Qos). has_bearer p new.rules q ≡ true) pair (has_own p new.rules t.0 t.1)) fresh) in
      let few = no_longer alone (id ∷ before.0) other_ids (absent_number id before.0 away, before.2)
      (λ i one. elim (there_cases id before.0 i one) [
        | inl same ↦ subst (λ (m : ℕ). Contains other_ids m) same (others_all id range.0 range.1)
        | inr later ↦ let t = before.3 i later in subst (λ (m : ℕ). Contains other_ids m) t.3 (was_other t.0 t.1 t.2)
      ]) in
      omega (arith, few, before.1)

  pub finds_bearer : (r : Active) → Contains old.rules r → finds_no_bearer p new r.properties new.rules ≡ false
  finds_bearer r there =
      elim (cases_Bool (has_bearer p new.rules r.properties.qos)) [
        | inl has ↦ rw has refl
        | inr fresh ↦ rw fresh (some_free (free_id p new new.rules) refl fresh)
      ]
    where
      some_free : (o : Option ℕ) → free_id p new new.rules ≡ o → has_bearer p new.rules r.properties.qos ≡ false → (not false && is_none o) ≡ false
      some_free (Some n) is fresh = refl
      some_free None is fresh =
          let free : ℕ → Bool = λ n. not (list_any (λ (s : Active). n == new.id_of s.properties.qos) (kept p new new.rules)) in
          let none = none_passes free other_ids is in
          absurd (all_taken r there fresh (λ n one.
          let used = not-false (list_any (λ (s : Active). n == new.id_of s.properties.qos) (kept p new new.rules)) (All-contains (λ (m : ℕ). free m ≡ false) other_ids n none one) in
          let w = some_there (λ (s : Active). n == new.id_of s.properties.qos) (kept p new new.rules) used in
          (w.0, (filter_from (λ (s : Active). has_bearer p new.rules s.properties.qos) new.rules w.0 w.1).0, sym (eqb-true n (new.id_of w.0.properties.qos) w.2))))
