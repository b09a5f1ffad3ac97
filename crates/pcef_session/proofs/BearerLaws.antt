-- What a session's bearers are, rule by rule.
use Rattle.std.proofs.lemmas.Bool.{eq-eqb, eqb-true, or_left, or_right}
use Rattle.pcef_catalog.proofs.Alternatives.{list_any_map}
use Rattle.std.proofs.Common.{◌≡◌, ◌∙◌, ℕ, Bool, true, false, List, [], ◌∷◌, refl, sym, ap, arith, inl, inr, filter, Contains, Some, find, ◌==◌}
use Rattle.std.specs.List.{list_any}
use Rattle.std.proofs.lemmas.Bool.{cases_Bool}
use Rattle.pcef_bearer.specs.Bindings.{bearer_of_rule, guaranteed, is_present, rules_on, bound_down, bound_up}
use Rattle.pcef_model.proofs.Names.{Once}
use Rattle.pcef_model.specs.Setting.{Setting, same_name, same_qos}
use Rattle.pcef_model.specs.ActiveRules.{Active, is_named}
use Rattle.pcef_model.specs.Generations.{Generation, has_bearer}
use Rattle.pcef_model.specs.Entries.{Journal}
use Rattle.pcef_model.specs.Journals.{now, tables}
use Rattle.pcef_base.proofs.Tests.{contrary}
use Rattle.pcef_model.proofs.Sameness.{same_name_is, same_name_of, same_qos_self, same_qos_is}
use Rattle.pcef_model.specs.Outcomes.{bearer_of as told_bearer}
use Rattle.pcef_bearer.specs.Standing.{bound_of, binding_of}
use Rattle.pcef_model.specs.Refusals.{total_up, rate_of}
use Rattle.pcef_bearer.proofs.BoundBearers.{total_down_bound, total_up_bound, bound_by}
use Rattle.pcef_model.proofs.BoundRules.{NamesOnce}
use Rattle.pcef_base.proofs.Found.{any_from}
use Rattle.pcef_model.proofs.Members.{there_cases, later_there, first_there}
use Rattle.pcef_model.proofs.Decisive.{made_once}
use Rattle.pcef_model.specs.Lawful.{Lawful}
use Rattle.pcef_rule.specs.declared.quantity.Qos.{Qos}
use Rattle.pcef_bearer.specs.declared.bearers.Bound.{Bound}
use Rattle.pcef_session.proofs.Tests.{same_test, any_there}
use Rattle.pcef_model.proofs.BearerIds.{lawful_bound, lawful_distinct}

-- ---- the bearer of a rule
found_bearer : (g : Generation) (rules : List Active) (r : Active) → NamesOnce rules → Contains rules r →
    bearer_of_rule r.properties.name (bound_of g rules) ≡ Some (record { 0 = g.id_of r.properties.qos })
unfolding Once
found_bearer g [] r once there = absurd (omega (arith, there.1))
found_bearer g (x ∷ rules) r once there =
    elim (there_cases x rules r there) [
      | inl same ↦
          let named : same_name x.properties.name r.properties.name ≡ true = same_name_of x.properties.name r.properties.name (ap (λ (y : Active). y.properties.name) same) in
          rw named (ap (λ (y : Active). Some (record { 0 = g.id_of y.properties.qos })) same)
      | inr later ↦ elim (cases_Bool (same_name x.properties.name r.properties.name)) [
        | inl named ↦
            contrary (list_any (is_named x.properties.name) rules)
            (any_from (is_named x.properties.name) rules r later (same_name_of r.properties.name x.properties.name (sym (same_name_is x.properties.name r.properties.name named)))) once.0
        | inr differs ↦ rw differs (found_bearer g rules r once.1 later)
      ]
    ]

-- the bearer of a name is that of the rule of the name
pub bearer_bound : (name : List ℕ) (g : Generation) (rules : List Active) → bearer_of_rule name (bound_of g rules) ≡ told_bearer g (find (is_named name) rules)
bearer_bound name g [] = refl
bearer_bound name g (r ∷ rules) =
    elim (cases_Bool (is_named name r)) [
      | inl is ↦ rw is refl
      | inr isnt ↦ rw isnt (bearer_bound name g rules)
    ]

pub stands_on : (p : Setting) (j : Journal) (r : Active) → Contains (now p j).rules r →
    bearer_of_rule r.properties.name (binding_of p (now p j)).bound ≡ Some (record { 0 = (now p j).id_of r.properties.qos })
stands_on p j r there = found_bearer (now p j) (now p j).rules r (made_once p (tables j)) there

-- ---- the sums of a bearer
on_bound : (id : ℕ) (g : Generation) (rules : List Active) → rules_on id (bound_of g rules) ≡ bound_of g (filter (λ r. g.id_of r.properties.qos == id) rules)
on_bound id g [] = refl
on_bound id g (r ∷ rules) =
    elim (cases_Bool (g.id_of r.properties.qos == id)) [
      | inl is ↦ rw (is, on_bound id g rules) refl
      | inr isnt ↦ rw (isnt, on_bound id g rules) refl
    ]

-- the rules on the bearer of a pair are those with the pair
alike_there : (f g : Active → Bool) (rules : List Active) → ((r : Active) → Contains rules r → f r ≡ g r) → filter f rules ≡ filter g rules
alike_there f g [] same = refl
alike_there f g (r ∷ rules) same =
    let rest = alike_there f g rules (λ s there. same s (later_there r rules s there)) in
    let here = same r (first_there r rules) in
    elim (cases_Bool (g r)) [
      | inl is ↦ let both : f r ≡ true = here ∙ is in rw (is, both) (ap (λ rs. r ∷ rs) rest)
      | inr isnt ↦ let both : f r ≡ false = here ∙ isnt in rw (isnt, both) rest
    ]

has_own : (p : Setting) (rules : List Active) (r : Active) → Contains rules r → has_bearer p rules r.properties.qos ≡ true
has_own p rules r there =
    or_right (same_qos r.properties.qos p.default_qos) (list_any (λ (s : Active). same_qos r.properties.qos s.properties.qos) rules)
    (any_from (λ (s : Active). same_qos r.properties.qos s.properties.qos) rules r there (same_qos_self r.properties.qos))

pair_rules : (p : Setting) (j : Journal) → Lawful p j → (q : Qos) → has_bearer p (now p j).rules q ≡ true →
    filter (λ r. (now p j).id_of r.properties.qos == (now p j).id_of q) (now p j).rules ≡ filter (λ r. same_qos q r.properties.qos) (now p j).rules
pair_rules p j lawful q has =
    let g : Generation = now p j in
    alike_there (λ r. g.id_of r.properties.qos == g.id_of q) (λ r. same_qos q r.properties.qos) g.rules
    (λ r there. same_test (g.id_of r.properties.qos == g.id_of q) (same_qos q r.properties.qos)
    (λ same. lawful_distinct p j lawful q r.properties.qos has (has_own p g.rules r there) (sym (eqb-true (g.id_of r.properties.qos) (g.id_of q) same)))
    (λ same. eq-eqb (g.id_of r.properties.qos) (g.id_of q) (ap g.id_of (sym (same_qos_is q r.properties.qos same)))))

-- a pair that has a bearer is the default one or that of a rule
present : (p : Setting) (j : Journal) → Lawful p j → (q : Qos) → has_bearer p (now p j).rules q ≡ true → is_present ((now p j).id_of q) (bound_of (now p j) (now p j).rules) ≡ true
present p j lawful q has =
    let g : Generation = now p j in
    elim (cases_Bool (same_qos q p.default_qos)) [
      | inl default ↦ or_left (g.id_of q == 5) (list_any (λ (b : Bound). b.bearer.0 == g.id_of q) (bound_of g g.rules)) (eq-eqb (g.id_of q) 5 ((lawful_bound p j lawful).five q default))
      | inr other ↦
          let some : list_any (λ (s : Active). same_qos q s.properties.qos) g.rules ≡ true = rw other at has in
          let w = any_there (λ (s : Active). same_qos q s.properties.qos) g.rules some in
          let same : g.id_of w.0.properties.qos ≡ g.id_of q = ap g.id_of (sym (same_qos_is q w.0.properties.qos w.2)) in
          or_right (g.id_of q == 5) (list_any (λ (b : Bound). b.bearer.0 == g.id_of q) (bound_of g g.rules))
          (list_any_map (λ (b : Bound). b.bearer.0 == g.id_of q) (bound_by g) g.rules
          ∙ any_from (λ (r : Active). g.id_of r.properties.qos == g.id_of q) g.rules w.0 w.1 (eq-eqb (g.id_of w.0.properties.qos) (g.id_of q) same))
    ]

pub sums_are : (p : Setting) (j : Journal) → Lawful p j → (q : Qos) → has_bearer p (now p j).rules q ≡ true →
    guaranteed ((now p j).id_of q) (binding_of p (now p j)).bound ≡ Some (rate_of (now p j) q)
sums_are p j lawful q has =
    let g : Generation = now p j in
    let id : ℕ = g.id_of q in
    let own = on_bound id g g.rules ∙ ap (bound_of g) (pair_rules p j lawful q has) in
    rw (present p j lawful q has)
    (ap (λ bs. Some (record { up = bound_up bs; down = bound_down bs })) own
    ∙ ap (λ n. Some (record { up = n; down = bound_down (bound_of g (filter (λ r. same_qos q r.properties.qos) g.rules)) })) (total_up_bound g (filter (λ r. same_qos q r.properties.qos) g.rules))
    ∙ ap (λ n. Some (record { up = total_up (filter (λ r. same_qos q r.properties.qos) g.rules); down = n })) (total_down_bound g (filter (λ r. same_qos q r.properties.qos) g.rules)))
