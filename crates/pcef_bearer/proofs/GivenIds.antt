-- The id that a binding gives.
use Rattle.std.proofs.Common.{◌≡◌, ◌∙◌, ◌≤◌, ◌<◌, ℕ, zero, suc, ◌==◌, true, false, not, List, [], ◌∷◌, find, Option, Some, None, refl, sym, ap, subst, arith, inl, inr, length, get_or, rules}
use Rattle.std.specs.Prelude.{All, AllPairs}
use Rattle.std.specs.List.{list_any}
use Rattle.std.proofs.lemmas.Bool.{cases_Bool, cases_order, false_from_ne_true, ne_eqb, or_from}
use Rattle.std.proofs.lemmas.Bool.Decides.{Decides-eqb}
use Rattle.std.proofs.lemmas.List.Elements.{All-filter, All-weaker, All-from_recursion}
use Rattle.std.proofs.lemmas.List.Folds.{list_any_none}
use Rattle.pcef_rule.specs.declared.quantity.Qos.{Qos}
use Rattle.pcef_base.proofs.Foremost.{none_passes}
use Rattle.pcef_model.specs.Setting.{same_qos}
use Rattle.pcef_base.proofs.Tests.{contrary}
use Rattle.pcef_model.proofs.Sameness.{same_qos_is, same_qos_of, same_qos_self, same_qos_sym}
use Rattle.pcef_bearer.specs.declared.bearers.Bound.{Bound}
use Rattle.pcef_bearer.specs.Bindings.{Agree, is_bound_as}
use Rattle.pcef_bearer.specs.BindingSteps.{HasItsId, finds_no_id, id_excluding, id_or_new, without_bound}
use Rattle.pcef_model.specs.Bearers.{default_id, has_pair, least_free, other_ids}
use Rattle.pcef_model.proofs.Names.{any_at}
use Rattle.pcef_base.proofs.Found.{found_is, found_passes}

-- ---- rules agree with one another
pub agree_self : (a : Bound) → Agree a a
agree_self a = same_qos_self a.qos ∙ sym ((Decides-eqb a.bearer.0 a.bearer.0).1 refl)

eqb_sym : (m n : ℕ) → (m == n) ≡ (n == m)
eqb_sym m n =
    elim (cases_Bool (m == n)) [
      | inl is ↦ is ∙ sym ((Decides-eqb n m).1 (sym ((Decides-eqb m n).0 is)))
      | inr isnt ↦ isnt ∙ sym (ne_eqb n m (λ e. contrary (m == n) ((Decides-eqb m n).1 (sym e)) isnt))
    ]

pub agree_sym : (a b : Bound) → Agree a b → Agree b a
agree_sym a b agree = same_qos_sym b.qos a.qos ∙ agree ∙ eqb_sym a.bearer.0 b.bearer.0

get_any : (bound : List Bound) (i : ℕ) (d e : Bound) → i < length bound → get_or bound i d ≡ get_or bound i e
get_any [] i d e within = absurd (omega (arith, within))
get_any (b ∷ bound) zero d e within = refl
get_any (b ∷ bound) (suc i) d e within = get_any bound i d e (omega (arith, within))

pub agree_all : (bound : List Bound) → AllPairs Agree bound → All (λ a. All (Agree a) bound) bound
agree_all bound pairs i d within j e below =
    elim (cases_order i j) [
      | inl same ↦
          let here : get_or bound j e ≡ get_or bound i d = ap (λ (k : ℕ). get_or bound k e) (sym same) ∙ get_any bound i e d within in
          rw here (agree_self (get_or bound i d))
      | inr differ ↦ elim differ [
        | inl first ↦ subst (λ (x : Bound). Agree (get_or bound i d) x) (get_any bound j d e below) (pairs i j d first below)
        | inr last ↦
            agree_sym (get_or bound j e) (get_or bound i d)
            (subst (λ (x : Bound). Agree (get_or bound j e) x) (get_any bound i e d within) (pairs j i e last within))
      ]
    ]

-- ---- the id that a pair gets beside other rules
abbrev AgreesWith : Qos → ℕ → Bound → Type 0
AgreesWith q id b = same_qos q b.qos ≡ (id == b.bearer.0)

pub record IsIdOf (default : Qos) (others : List Bound) (q : Qos) (id : ℕ) : Type 0 where
  pub agrees : All (AgreesWith q id) others
  pub of_default : same_qos q default ≡ true → id ≡ default_id
  pub of_other : same_qos q default ≡ false → (6 ≤ id) × (id ≤ 15)

-- of the default pair
default_agrees : (default q : Qos) (b : Bound) → same_qos q default ≡ true → HasItsId default b → AgreesWith q 5 b
default_agrees default q b is has =
    elim (cases_Bool (same_qos b.qos default)) [
      | inl on ↦
          same_qos_of q b.qos (same_qos_is q default is ∙ sym (same_qos_is b.qos default on))
          ∙ sym ((Decides-eqb 5 b.bearer.0).1 (sym (has.0 on)))
      | inr off ↦
          false_from_ne_true (same_qos q b.qos)
          (λ same. contrary (same_qos b.qos default)
          (same_qos_of b.qos default (sym (same_qos_is q b.qos same) ∙ same_qos_is q default is)) off)
          ∙ sym (ne_eqb 5 b.bearer.0 (λ e. let range = has.1 off in omega (arith, e, range.0)))
    ]

module _ (default : Qos) (name : List ℕ) (bound : List Bound) (q : Qos) (id : ℕ)
    (ids : All (HasItsId default) bound) (pairs : AllPairs Agree bound) where
  by_default : same_qos q default ≡ true → Some default_id ≡ Some id → IsIdOf default (without_bound name bound) q id
  by_default is found =
      let five : 5 ≡ id = cc in
      subst (λ (n : ℕ). IsIdOf default (without_bound name bound) q n) five (record {
        agrees = All-weaker (HasItsId default) (AgreesWith q 5) (λ b has. default_agrees default q b is has) (without_bound name bound)
            (All-filter (λ (b : Bound). not (is_bound_as name b)) (HasItsId default) bound ids);
        of_default = λ _. refl;
        of_other = λ isnt. contrary (same_qos q default) is isnt;
      })

  -- of a pair that has a bearer
  by_old : same_qos q default ≡ false → (c : Bound) → find (λ (b : Bound). same_qos q b.qos) bound ≡ Some c →
      IsIdOf default (without_bound name bound) q c.bearer.0
  by_old isnt c found =
      let is : q ≡ c.qos = same_qos_is q c.qos (found_passes (λ (b : Bound). same_qos q b.qos) bound c found) in
      let agree : All (Agree c) bound =
      found_is (λ (a : Bound). All (Agree a) bound) (λ (b : Bound). same_qos q b.qos) bound c (agree_all bound pairs) found in
      let has : HasItsId default c = found_is (HasItsId default) (λ (b : Bound). same_qos q b.qos) bound c ids found in
      record {
        agrees = All-weaker (Agree c) (AgreesWith q c.bearer.0)
            (λ b same. subst (λ (p : Qos). same_qos p b.qos ≡ (c.bearer.0 == b.bearer.0)) (sym is) same) (without_bound name bound)
            (All-filter (λ (b : Bound). not (is_bound_as name b)) (Agree c) bound agree);
        of_default = λ is. contrary (same_qos q default) is isnt;
        of_other = λ off. has.1 (subst (λ (p : Qos). same_qos p default ≡ false) is off);
      }

  -- of a new pair
  by_new : same_qos q default ≡ false → find (λ (b : Bound). same_qos q b.qos) bound ≡ None → least_free (λ (b : Bound). b.bearer.0) (without_bound name bound) ≡ Some id →
      IsIdOf default (without_bound name bound) q id
  by_new isnt none found =
      let others : All (λ (b : Bound). same_qos q b.qos ≡ false) (without_bound name bound) =
      All-filter (λ (b : Bound). not (is_bound_as name b)) (λ (b : Bound). same_qos q b.qos ≡ false) bound
      (none_passes (λ (b : Bound). same_qos q b.qos) bound none) in
      let passes : not (list_any (λ (b : Bound). id == b.bearer.0) (without_bound name bound)) ≡ true =
      found_passes (λ (i : ℕ). not (list_any (λ (b : Bound). i == b.bearer.0) (without_bound name bound))) other_ids id found in
      let unused : list_any (λ (b : Bound). id == b.bearer.0) (without_bound name bound) ≡ false =
      false_from_ne_true (list_any (λ (b : Bound). id == b.bearer.0) (without_bound name bound))
      (λ there. contrary (not (list_any (λ (b : Bound). id == b.bearer.0) (without_bound name bound))) passes (ap not there)) in
      record {
        agrees = λ k d within.
            others k d within ∙ sym (any_at (λ (b : Bound). id == b.bearer.0) (without_bound name bound) unused k d within);
        of_default = λ is. contrary (same_qos q default) is isnt;
        of_other = λ _.
            found_is (λ (i : ℕ). (6 ≤ i) × (i ≤ 15))
            (λ (i : ℕ). not (list_any (λ (b : Bound). i == b.bearer.0) (without_bound name bound))) other_ids id in_range found;
      }
    where
      in_range : All (λ (i : ℕ). (6 ≤ i) × (i ≤ 15)) other_ids
      in_range = All-from_recursion (λ (i : ℕ). (6 ≤ i) × (i ≤ 15)) other_ids (search rules)

  by_other : same_qos q default ≡ false → (o : Option Bound) → find (λ (b : Bound). same_qos q b.qos) bound ≡ o →
      id_or_new o (without_bound name bound) ≡ Some id → IsIdOf default (without_bound name bound) q id
  by_other isnt (Some c) there found =
      let same : c.bearer.0 ≡ id = cc in
      subst (λ (n : ℕ). IsIdOf default (without_bound name bound) q n) same (by_old isnt c there)
  by_other isnt None there found = by_new isnt there found

  pub given_id : id_excluding default bound (without_bound name bound) q ≡ Some id → IsIdOf default (without_bound name bound) q id
  given_id found =
      elim (cases_Bool (same_qos q default)) [
        | inl is ↦ by_default is (rw is at found)
        | inr isnt ↦ by_other isnt (find (λ (b : Bound). same_qos q b.qos) bound) refl (rw isnt at found)
      ]

-- a pair that finds a bearer gets an id
pub gets_id : (default : Qos) (name : List ℕ) (bound : List Bound) (q : Qos) → finds_no_id default (without_bound name bound) q ≡ false →
    id_excluding default bound (without_bound name bound) q ≡ None → ⊥
gets_id default name bound q accepted none =
    elim (cases_Bool (same_qos q default)) [
      | inl is ↦
          let bad : Some default_id ≡ None = rw is at none in
          absurd (cc)
      | inr isnt ↦ without_id isnt (find (λ (b : Bound). same_qos q b.qos) bound) refl (rw isnt at none)
    ]
  where
    without_id : same_qos q default ≡ false → (o : Option Bound) → find (λ (b : Bound). same_qos q b.qos) bound ≡ o →
        id_or_new o (without_bound name bound) ≡ None → ⊥
    without_id isnt (Some c) there none = absurd (cc)
    without_id isnt None there none =
        let others : All (λ (b : Bound). same_qos q b.qos ≡ false) (without_bound name bound) =
        All-filter (λ (b : Bound). not (is_bound_as name b)) (λ (b : Bound). same_qos q b.qos ≡ false) bound
        (none_passes (λ (b : Bound). same_qos q b.qos) bound there) in
        let unheld : has_pair (λ (b : Bound). b.qos) default (without_bound name bound) q ≡ false =
        or_from (same_qos q default) (list_any (λ (b : Bound). same_qos q b.qos) (without_bound name bound)) isnt
        (list_any_none (λ (b : Bound). same_qos q b.qos) (without_bound name bound) others) in
        let bad : true ≡ false = rw (unheld, none) at accepted in
        absurd (cc)
