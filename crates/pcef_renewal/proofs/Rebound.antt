-- The bearers of a new session get the numbers of their places.
use Rattle.std.proofs.Common.{◌≡◌, ◌∙◌, ◌≤◌, ◌==◌, ◌++◌, ℕ, suc, Bool, true, false, not, List, [], ◌∷◌, Contains, Some, filter, find, map, unwrap_or, sym, ap, subst, arith, inl, inr}
use Rattle.std.specs.List.{list_any}
use Rattle.std.proofs.lemmas.Bool.{cases_Bool, cases_lt, eq-eqb, eqb-true, false_from_ne_true, or_cases}
use Rattle.std.proofs.lemmas.List.{append-nil, append_assoc}
use Rattle.std.proofs.lemmas.List.Elements.{Contains-append_left, Contains-append_right, Contains-push_cases, filter-append}
use Rattle.pcef_base.proofs.Found.{any_from}
use Rattle.pcef_base.proofs.Tests.{contrary}
use Rattle.pcef_rule.specs.declared.quantity.Qos.{Qos}
use Rattle.pcef_model.specs.declared.entry.Entry.TheVariants as entry
use Rattle.pcef_model.specs.declared.command.Command.{Command}
use Rattle.pcef_model.specs.ActiveRules.{Active, is_named}
use Rattle.pcef_model.specs.Bearers.{default_id, other_ids}
use Rattle.pcef_model.specs.Commands.{activated}
use Rattle.pcef_model.specs.Entries.{Journal}
use Rattle.pcef_model.specs.Generations.{Generation, free_id, has_bearer, id_after, kept, rules_after}
use Rattle.pcef_model.specs.Journals.{now}
use Rattle.pcef_model.specs.Setting.{Setting, same_qos}
use Rattle.pcef_model.proofs.BearerIds.{IsBound, id_default, id_kept, id_new}
use Rattle.pcef_model.proofs.BoundRules.{NamesOnce}
use Rattle.pcef_model.proofs.Growth.{now_after_table}
use Rattle.pcef_model.proofs.Members.{first_there, later_there}
use Rattle.pcef_model.proofs.RulesAfter.{makes_active, rules_put}
use Rattle.pcef_model.proofs.Sameness.{same_qos_is}
use Rattle.pcef_renewal.specs.Accepting.{entered}
use Rattle.pcef_renewal.specs.Renewal.{rule_again}
use Rattle.pcef_renewal.proofs.Fitting.{once_next}
use Rattle.pcef_renewal.proofs.FreeBearers.{has_own}
use Rattle.pcef_renewal.proofs.Order.{others_ascend, some_there}
use Rattle.pcef_renewal.proofs.Regrouping.{Steps, filter_kept, find_least}
use Rattle.pcef_renewal.proofs.Returning.{put_last}

-- the generation of the old session, and the new number of each of its bearers
pub record Numbers (p : Setting) (old : Generation) (number : ℕ → ℕ) : Type 0 where
  pub bound : IsBound p old
  pub five : number 5 ≡ 5
  pub others : (r : Active) → Contains old.rules r → same_qos r.properties.qos p.default_qos ≡ false →
      (6 ≤ number (old.id_of r.properties.qos)) × (number (old.id_of r.properties.qos) ≤ 15)
  pub alone : (r s : Active) → Contains old.rules r → Contains old.rules s → number (old.id_of r.properties.qos) ≡ number (old.id_of s.properties.qos) →
      old.id_of r.properties.qos ≡ old.id_of s.properties.qos

-- the numbers up to t are given, each to its bearer
pub record Given (p : Setting) (old g : Generation) (number : ℕ → ℕ) (t : ℕ) : Type 0 where
  pub part : (r : Active) → Contains g.rules r → Contains old.rules r
  pub own : (r : Active) → Contains g.rules r → g.id_of r.properties.qos ≡ number (old.id_of r.properties.qos)
  pub most : (r : Active) → Contains g.rules r → g.id_of r.properties.qos ≤ t
  pub all : (m : ℕ) → 6 ≤ m → m ≤ t → (r : Active) × Contains g.rules r × (g.id_of r.properties.qos ≡ m)
  pub some : 5 ≤ t

-- ---- one rule more
module _ (p : Setting) (old g : Generation) (number : ℕ → ℕ) (numbers : Numbers p old number) (t : ℕ) (given : Given p old g number t)
    (r : Active) (there : Contains old.rules r) where
  abbrev longer : List Active
  longer = g.rules ++ r ∷ []

  abbrev due : ℕ
  due = number (old.id_of r.properties.qos)

  -- a pair of the default bearer has 5
  default_due : (s : Active) → same_qos s.properties.qos p.default_qos ≡ true → number (old.id_of s.properties.qos) ≡ 5
  default_due s is = ap number (numbers.bound.five s.properties.qos is) ∙ numbers.five

  -- the bearers of the others stay
  stays_bound : (s : Active) → Contains g.rules s → id_after p g longer s.properties.qos ≡ g.id_of s.properties.qos
  stays_bound s here =
      elim (cases_Bool (same_qos s.properties.qos p.default_qos)) [
        | inl is ↦ id_default p g longer s.properties.qos is ∙ sym (default_due s is) ∙ sym (given.own s here)
        | inr isnt ↦ id_kept p g longer s.properties.qos isnt (has_own p g.rules s here)
      ]

  -- one with the same number has the same pair
  same_pair : (s : Active) → Contains g.rules s → g.id_of s.properties.qos ≡ due → r.properties.qos ≡ s.properties.qos
  same_pair s here same =
      let ids = numbers.alone r s there (given.part s here) (sym same ∙ given.own s here) in
      numbers.bound.distinct r.properties.qos s.properties.qos (has_own p old.rules r there) (has_own p old.rules s (given.part s here)) ids

  -- one with the same pair
  paired : same_qos r.properties.qos p.default_qos ≡ false → has_bearer p g.rules r.properties.qos ≡ true →
      (s : Active) × Contains g.rules s × (r.properties.qos ≡ s.properties.qos)
  paired isnt has =
      elim (or_cases (same_qos r.properties.qos p.default_qos) (list_any (λ (s : Active). same_qos r.properties.qos s.properties.qos) g.rules) has) [
        | inl is ↦ contrary (same_qos r.properties.qos p.default_qos) is isnt
        | inr some ↦
            let w = some_there (λ (s : Active). same_qos r.properties.qos s.properties.qos) g.rules some in
            (w.0, w.1, same_qos_is r.properties.qos w.0.properties.qos w.2)
      ]

  kept_are : has_bearer p g.rules r.properties.qos ≡ false → kept p g longer ≡ g.rules
  kept_are fresh =
      let test : Active → Bool = λ s. has_bearer p g.rules s.properties.qos in
      filter-append test g.rules (r ∷ [])
      ∙ ap (λ rs. rs ++ filter test (r ∷ [])) (filter_kept test g.rules (λ s here. has_own p g.rules s here))
      ∙ (rw fresh (append-nil g.rules))

  finds_due : same_qos r.properties.qos p.default_qos ≡ false → has_bearer p g.rules r.properties.qos ≡ false → due ≤ suc t → free_id p g longer ≡ Some due
  finds_due isnt fresh next =
      let range = numbers.others r there isnt in
      ap (λ rs. find (λ n. not (list_any (λ (s : Active). n == g.id_of s.properties.qos) rs)) other_ids) (kept_are fresh)
      ∙ find_least (λ n. not (list_any (λ (s : Active). n == g.id_of s.properties.qos) g.rules)) 6 due other_ids others_ascend range.0 (omega (arith, range.1))
      (λ i from below.
      let w = given.all i from (omega (arith, below, next)) in
      ap not (any_from (λ (s : Active). i == g.id_of s.properties.qos) g.rules w.0 w.1 (eq-eqb i (g.id_of w.0.properties.qos) (sym w.2))))
      (ap not (false_from_ne_true (list_any (λ (s : Active). due == g.id_of s.properties.qos) g.rules) (λ used.
      let w = some_there (λ (s : Active). due == g.id_of s.properties.qos) g.rules used in
      let pair = same_pair w.0 w.1 (sym (eqb-true due (g.id_of w.0.properties.qos) w.2)) in
      contrary (has_bearer p g.rules r.properties.qos) (subst (λ (q : Qos). has_bearer p g.rules q ≡ true) (sym pair) (has_own p g.rules w.0 w.1)) fresh)))

  gets_due : due ≤ suc t → id_after p g longer r.properties.qos ≡ due
  gets_due next =
      elim (cases_Bool (same_qos r.properties.qos p.default_qos)) [
        | inl is ↦ id_default p g longer r.properties.qos is ∙ sym (default_due r is)
        | inr isnt ↦ elim (cases_Bool (has_bearer p g.rules r.properties.qos)) [
          | inl has ↦
              let w = paired isnt has in
              id_kept p g longer r.properties.qos isnt has
              ∙ ap g.id_of w.2 ∙ given.own w.0 w.1 ∙ ap (λ (q : Qos). number (old.id_of q)) (sym w.2)
          | inr fresh ↦ id_new p g longer r.properties.qos isnt fresh ∙ ap (λ o. unwrap_or o default_id) (finds_due isnt fresh next)
        ]
      ]

  -- ---- the generation after it
  pub given_next : (g2 : Generation) → g2.rules ≡ longer → ((q : Qos) → g2.id_of q ≡ id_after p g longer q) → (u : ℕ) → t ≤ u → due ≤ u → due ≤ suc t →
      ((m : ℕ) → m ≤ u → (m ≤ t → ⊥) → m ≡ due) → Given p old g2 number u
  given_next g2 rules_are ids_are u more low next new = record {
    part = λ s one. elim (Contains-push_cases g.rules r s (subst (λ rs. Contains rs s) rules_are one)) [
      | inl before ↦ given.part s before
      | inr same ↦ subst (λ (x : Active). Contains old.rules x) same there
    ];
    own = λ s one. elim (Contains-push_cases g.rules r s (subst (λ rs. Contains rs s) rules_are one)) [
      | inl before ↦ ids_are s.properties.qos ∙ stays_bound s before ∙ given.own s before
      | inr same ↦ subst (λ (x : Active). g2.id_of x.properties.qos ≡ number (old.id_of x.properties.qos)) same (ids_are r.properties.qos ∙ gets_due next)
    ];
    most = λ s one. elim (Contains-push_cases g.rules r s (subst (λ rs. Contains rs s) rules_are one)) [
      | inl before ↦ let is = ids_are s.properties.qos ∙ stays_bound s before in let few = given.most s before in omega (arith, is, few, more)
      | inr same ↦ subst (λ (x : Active). g2.id_of x.properties.qos ≤ u) same (let is = ids_are r.properties.qos ∙ gets_due next in omega (arith, is, low))
    ];
    all = λ m from to. elim (cases_lt t m) [
      | inl past ↦
          let m_is = new m to (λ within. absurd (omega (arith, within, past))) in (
            r,
            subst (λ rs. Contains rs r) (sym rules_are) (Contains-append_right g.rules (r ∷ []) r (first_there r [])),
            ids_are r.properties.qos ∙ gets_due next ∙ sym m_is,
          )
      | inr within ↦
          let w = given.all m from within in (
            w.0,
            subst (λ rs. Contains rs w.0) (sym rules_are) (Contains-append_left g.rules (r ∷ []) w.0 w.1),
            ids_are w.0.properties.qos ∙ stays_bound w.0 w.1 ∙ w.2,
          )
    ];
    some = omega (arith, given.some, more);
  }

-- ---- all rules
module _ (p : Setting) (old : Generation) (number : ℕ → ℕ) (numbers : Numbers p old number) where
  abbrev due_of : Active → ℕ
  due_of r = number (old.id_of r.properties.qos)

  -- the next one
  next_rule : (k : Journal) (done : List Active) (r : Active) → (now p k).rules ≡ done → list_any (is_named r.properties.name) done ≡ false → activated p (rule_again r) ≡ Some r →
      ((now p (entry.Command (rule_again r) ∷ k)).rules ≡ (now p k).rules ++ r ∷ [])
      × ((q : Qos) → (now p (entry.Command (rule_again r) ∷ k)).id_of q ≡ id_after p (now p k) ((now p k).rules ++ r ∷ []) q)
  next_rule k done r rules_are new returns =
      let c : Command = rule_again r in
      let makes = makes_active p c r returns in
      let after : rules_after p (now p k) c ≡ (now p k).rules ++ r ∷ [] =
      rules_put p (now p k) c r returns ∙ put_last r (now p k).rules (ap (list_any (is_named r.properties.name)) rules_are ∙ new) in
      let whole = now_after_table p k c makes.is_table in (
        ap (λ (g : Generation). g.rules) whole ∙ after,
        λ q. ap (λ (g : Generation). g.id_of q) whole ∙ ap (λ rs. id_after p (now p k) rs q) after,
      )

  pub given_all : (rest done : List Active) (k : Journal) (t : ℕ) → (now p k).rules ≡ done → NamesOnce (done ++ rest) → ((r : Active) → Contains rest r → activated p (rule_again r) ≡ Some r) →
      ((r : Active) → Contains rest r → Contains old.rules r) → Steps t (map due_of rest) → Given p old (now p k) number t →
      (u : ℕ) × Given p old (now p (entered (map rule_again rest) k)) number u
  unfolding Steps
  given_all [] done k t rules_are once returns part steps given = (t, given)
  given_all (r ∷ rest) done k t rules_are once returns part steps given =
      let new = once_next (λ (s : Active). s.properties.name) done r rest once in
      let next = next_rule k done r rules_are new (returns r (first_there r rest)) in
      let k2 : Journal = entry.Command (rule_again r) ∷ k in
      let there = part r (first_there r rest) in
      let rules_next : (now p k2).rules ≡ done ++ r ∷ [] = next.0 ∙ ap (λ rs. rs ++ r ∷ []) rules_are in
      let once_all = subst NamesOnce (sym (append_assoc done (r ∷ []) rest)) once in
      let returns_all : (s : Active) → Contains rest s → activated p (rule_again s) ≡ Some s = λ s later. returns s (later_there r rest s later) in
      let part_all : (s : Active) → Contains rest s → Contains old.rules s = λ s later. part s (later_there r rest s later) in
      elim steps [
        | inl over ↦ given_all rest (done ++ r ∷ []) k2 t rules_next once_all returns_all part_all over.1
            (given_next p old (now p k) number numbers t given r there (now p k2) next.0 next.1 t (omega arith) over.0 (omega (arith, over.0)) (λ m within past. absurd (past within)))
        | inr up ↦ given_all rest (done ++ r ∷ []) k2 (suc t) rules_next once_all returns_all part_all up.1
            (given_next p old (now p k) number numbers t given r there (now p k2) next.0 next.1 (suc t) (omega arith) (omega (arith, up.0)) (omega (arith, up.0))
            (λ m within past. top m t (due_of r) within past up.0))
      ]
    where
      top : (m t d : ℕ) → m ≤ suc t → (m ≤ t → ⊥) → d ≡ suc t → m ≡ d
      top m t d within past is = elim (cases_lt t m) [ inl more ↦ omega (arith, within, more, is) | inr less ↦ absurd (past less) ]
