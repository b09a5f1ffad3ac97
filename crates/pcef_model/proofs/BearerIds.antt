-- In every lawful journal the bearers have ids of their own.
use Rattle.std.proofs.Common.{rules, is_none, ◌≡◌, ◌≤◌, ◌∙◌, ℕ, suc, zero, ◌==◌, Bool, true, false, not, List, [], ◌∷◌, filter, unwrap_or, Option, Some, None, refl, sym, ap, subst, arith, inl, inr, true≢false}
use Rattle.std.specs.Prelude.{All, if◌then◌else◌}
use Rattle.std.specs.List.{list_any}
use Rattle.std.proofs.lemmas.Bool.{cases_Bool, or_cases, or_left, or_right, or_parts, and_cases, or_from, false_from_ne_true}
use Rattle.std.proofs.lemmas.Bool.Decides.{Decides-eqb}
use Rattle.std.proofs.lemmas.List.Elements.{All-from_recursion}
use Rattle.pcef_rule.specs.declared.quantity.Qos.{Qos}
use Rattle.pcef_rule.specs.declared.rule.Properties.{Properties}
use Rattle.pcef_model.specs.declared.command.Command.{Command}
use Rattle.pcef_model.specs.declared.entry.Entry.TheVariants as entry
use Rattle.pcef_model.specs.declared.row.Row.{Row}
use Rattle.pcef_model.specs.declared.pending_report.PendingReport.{PendingReport}
use Rattle.pcef_model.specs.Bearers.{default_id, least_free, other_ids}
use Rattle.pcef_base.proofs.Found.{found_is, found_passes}
use Rattle.pcef_model.specs.Setting.{Setting, same_qos}
use Rattle.pcef_model.specs.ActiveRules.{Active, is_named, put, without}
use Rattle.pcef_model.specs.Generations.{Generation, at_first as before_all, free_id, has_bearer, id_after, kept, made_by, next, rules_after, stays}
use Rattle.pcef_model.proofs.Acceptance.{activation_accepted, can_become}
use Rattle.pcef_model.proofs.RulesAfter.{rule_change, rules_left, rules_put}
use Rattle.pcef_model.specs.Entries.{Journal}
use Rattle.pcef_model.specs.Commands.{is_table}
use Rattle.pcef_model.specs.Journals.{now}
use Rattle.pcef_model.specs.Reports.{after_command, after_flush, with_reports, thresholds, with_rows}
use Rattle.pcef_model.proofs.Growth.{now_after_table, tables_of_other}
use Rattle.pcef_base.proofs.Tests.{contrary}
use Rattle.pcef_model.proofs.Sameness.{same_qos_is, same_qos_self}
use Rattle.pcef_model.specs.Outcomes.{changes}
use Rattle.pcef_model.specs.Lawful.{Lawful, at_first, by_attach, by_command, by_flush, by_leave}
use Rattle.pcef_model.specs.Refusals.{Conditions, finds_no_bearer, first_of, refusals, bindings}
use Rattle.pcef_model.proofs.BoundRules.{NamesOnce}
use Rattle.pcef_model.proofs.Names.{Once, filter_any, filter_once, put_any, put_filter, put_once}
use Rattle.pcef_model.proofs.Reports.{tell_tables}

-- ---- the least free id
-- where one is free, it is found
free_found : (o : Option ℕ) → (o ≡ None → ⊥) → o ≡ Some (unwrap_or o default_id)
free_found None some = absurd (some refl)
free_found (Some n) some = refl

ids_in_range : All (λ (i : ℕ). (6 ≤ i) × (i ≤ 15)) other_ids
ids_in_range = All-from_recursion (λ (i : ℕ). (6 ≤ i) × (i ≤ 15)) other_ids (search rules)

-- the least free id is one of those beside the default one, and no rule that is kept is on it
free_in_range : (p : Setting) (g : Generation) (rules : List Active) → (free_id p g rules ≡ None → ⊥) →
    (6 ≤ unwrap_or (free_id p g rules) default_id) × (unwrap_or (free_id p g rules) default_id ≤ 15)
free_in_range p g rules some =
    found_is (λ (id : ℕ). (6 ≤ id) × (id ≤ 15)) (λ (id : ℕ). not (list_any (λ (r : Active). id == g.id_of r.properties.qos) (kept p g rules))) other_ids
    (unwrap_or (free_id p g rules) default_id) ids_in_range (free_found (free_id p g rules) some)

free_unused : (p : Setting) (g : Generation) (rules : List Active) → (free_id p g rules ≡ None → ⊥) →
    list_any (λ (r : Active). unwrap_or (free_id p g rules) default_id == g.id_of r.properties.qos) (kept p g rules) ≡ false
free_unused p g rules some =
    false_from_ne_true (list_any (λ (r : Active). unwrap_or (free_id p g rules) default_id == g.id_of r.properties.qos) (kept p g rules))
    (λ there. let passes = found_passes (λ (id : ℕ). not (list_any (λ (r : Active). id == g.id_of r.properties.qos) (kept p g rules))) other_ids
    (unwrap_or (free_id p g rules) default_id) (free_found (free_id p g rules) some) in
    contrary (not (list_any (λ (r : Active). unwrap_or (free_id p g rules) default_id == g.id_of r.properties.qos) (kept p g rules))) passes (ap not there))

-- an id that isn't among those kept is none of a pair that keeps its own
kept_apart : (h : Qos → Bool) (id_of : Qos → ℕ) (id : ℕ) (q : Qos) (rules : List Active) →
    list_any (λ r. same_qos q r.properties.qos) rules ≡ true → h q ≡ true →
    list_any (λ (r : Active). id == id_of r.properties.qos) (filter (λ (r : Active). h r.properties.qos) rules) ≡ false → id_of q ≡ id → ⊥
kept_apart h id_of id q [] there had unused same = absurd (true≢false (sym there))
kept_apart h id_of id q (r ∷ rules) there had unused same =
    elim (or_cases (same_qos q r.properties.qos) (list_any (λ (s : Active). same_qos q s.properties.qos) rules) there) [
      | inl alike ↦
          let is : q ≡ r.properties.qos = same_qos_is q r.properties.qos alike in
          let kept : h r.properties.qos ≡ true = subst (λ s. h s ≡ true) is had in
          let own : id ≡ id_of r.properties.qos = sym same ∙ ap id_of is in
          let parts = or_parts (id == id_of r.properties.qos)
          (list_any (λ (s : Active). id == id_of s.properties.qos) (filter (λ (s : Active). h s.properties.qos) rules))
          (rw kept at unused) in
          contrary (id == id_of r.properties.qos) ((Decides-eqb id (id_of r.properties.qos)).1 own) parts.0
      | inr later ↦
          elim (cases_Bool (h r.properties.qos)) [
            | inl kept ↦
                let parts = or_parts (id == id_of r.properties.qos)
                (list_any (λ (s : Active). id == id_of s.properties.qos) (filter (λ (s : Active). h s.properties.qos) rules))
                (rw kept at unused) in
                kept_apart h id_of id q rules later had parts.1 same
            | inr gone ↦ kept_apart h id_of id q rules later had (rw gone at unused) same
          ]
    ]

-- ---- what holds of a generation, and of the rules of the next
pub record IsBound (p : Setting) (g : Generation) : Type 0 where
  pub once : NamesOnce g.rules
  pub five : (q : Qos) → same_qos q p.default_qos ≡ true → g.id_of q ≡ 5
  pub others : (q : Qos) → has_bearer p g.rules q ≡ true → same_qos q p.default_qos ≡ false → (6 ≤ g.id_of q) × (g.id_of q ≤ 15)
  pub distinct : (q r : Qos) → has_bearer p g.rules q ≡ true → has_bearer p g.rules r ≡ true → g.id_of q ≡ g.id_of r → q ≡ r

-- rules that may come next: a new pair finds an id, and there is one new pair at most
pub record Follows (p : Setting) (g : Generation) (rules : List Active) : Type 0 where
  pub once : NamesOnce rules
  pub finds : (q : Qos) → has_bearer p rules q ≡ true → has_bearer p g.rules q ≡ false → free_id p g rules ≡ None → ⊥
  pub one : (q r : Qos) → has_bearer p rules q ≡ true → has_bearer p g.rules q ≡ false →
      has_bearer p rules r ≡ true → has_bearer p g.rules r ≡ false → q ≡ r

-- a pair that has a bearer in part of the rules has one in all
has_bearer_more : (p : Setting) (part all : List Active) →
    ((t : Active → Bool) → list_any t part ≡ true → list_any t all ≡ true) →
    (q : Qos) → has_bearer p part q ≡ true → has_bearer p all q ≡ true
has_bearer_more p part all more q has =
    elim (or_cases (same_qos q p.default_qos) (list_any (λ (r : Active). same_qos q r.properties.qos) part) has) [
      | inl is ↦ or_left (same_qos q p.default_qos) (list_any (λ (r : Active). same_qos q r.properties.qos) all) is
      | inr there ↦
          or_right (same_qos q p.default_qos) (list_any (λ (r : Active). same_qos q r.properties.qos) all)
          (more (λ r. same_qos q r.properties.qos) there)
    ]

-- fewer rules bring no new pair
follows_part : (p : Setting) (g : Generation) (part : List Active) → NamesOnce part →
    ((t : Active → Bool) → list_any t part ≡ true → list_any t g.rules ≡ true) → Follows p g part
follows_part p g part once more = record {
  once = once;
  finds = λ q has new free. contrary (has_bearer p g.rules q) (has_bearer_more p part g.rules more q has) new;
  one = λ q r has new has2 new2. contrary (has_bearer p g.rules q) (has_bearer_more p part g.rules more q has) new;
}

follows_same : (p : Setting) (g : Generation) → IsBound p g → Follows p g g.rules
follows_same p g bound = follows_part p g g.rules bound.once (λ t there. there)

follows_filter : (p : Setting) (g : Generation) (s : Active → Bool) → IsBound p g → Follows p g (filter s g.rules)
follows_filter p g s bound = follows_part p g (filter s g.rules) (filter_once (λ (r : Active). r.properties.name) s g.rules bound.once) (λ t there. filter_any t s g.rules there)

follows_none : (p : Setting) (g : Generation) → Follows p g []
unfolding Once
follows_none p g = follows_part p g [] tt (λ t there. absurd (true≢false (sym there)))

-- a pair that is new after a put is that of the new rule
new_is : (p : Setting) (new : Active) (rules : List Active) (q : Qos) →
    has_bearer p (put new rules) q ≡ true → has_bearer p rules q ≡ false → q ≡ new.properties.qos
new_is p new rules q has isnt =
    let parts = or_parts (same_qos q p.default_qos) (list_any (λ (r : Active). same_qos q r.properties.qos) rules) isnt in
    elim (or_cases (same_qos q p.default_qos) (list_any (λ (r : Active). same_qos q r.properties.qos) (put new rules)) has) [
      | inl is ↦ contrary (same_qos q p.default_qos) is parts.0
      | inr there ↦ elim (put_any (λ (r : Active). r.properties.name) (λ r. same_qos q r.properties.qos) new rules there) [
        | inl it ↦ same_qos_is q new.properties.qos it
        | inr other ↦ contrary (list_any (λ (r : Active). same_qos q r.properties.qos) rules) other parts.1
      ]
    ]

-- a new pair that isn't refused finds an id
finds_id : (p : Setting) (g : Generation) (rule : Properties) (others : List Active) →
    finds_no_bearer p g rule others ≡ false → has_bearer p others rule.qos ≡ false → free_id p g others ≡ None → ⊥
finds_id p g rule others accepted new none =
    elim (and_cases (not (has_bearer p others rule.qos)) (is_none (free_id p g others)) accepted) [
      | inl has ↦ contrary (not (has_bearer p others rule.qos)) (ap not new) has
      | inr some ↦ contrary (is_none (free_id p g others)) (ap (λ (o : Option ℕ). is_none o) none) some
    ]

-- a rule that isn't refused may come
follows_put : (p : Setting) (g : Generation) (new : Active) → IsBound p g →
    finds_no_bearer p g new.properties (without new.properties.name g.rules) ≡ false → Follows p g (put new g.rules)
follows_put p g new bound accepted = record {
  once = put_once (λ (r : Active). r.properties.name) new g.rules bound.once;
  finds = λ q has isnt free.
      let before : has_bearer p g.rules new.properties.qos ≡ false =
      subst (λ s. has_bearer p g.rules s ≡ false) (new_is p new g.rules q has isnt) isnt in
      let beside : has_bearer p (without new.properties.name g.rules) new.properties.qos ≡ false =
      false_from_ne_true (has_bearer p (without new.properties.name g.rules) new.properties.qos)
      (λ there. contrary (has_bearer p g.rules new.properties.qos)
      (has_bearer_more p (without new.properties.name g.rules) g.rules
      (λ t. filter_any t (λ r. not (is_named new.properties.name r)) g.rules) new.properties.qos there) before) in
      let same : kept p g (put new g.rules) ≡ kept p g (without new.properties.name g.rules) =
      put_filter (λ (r : Active). r.properties.name) (λ r. has_bearer p g.rules r.properties.qos) new g.rules before bound.once in
      finds_id p g new.properties (without new.properties.name g.rules) accepted beside (subst (λ (used : List Active). least_free (λ (r : Active). g.id_of r.properties.qos) used ≡ None) same free);
  one = λ q r has isnt has2 isnt2. new_is p new g.rules q has isnt ∙ sym (new_is p new g.rules r has2 isnt2);
}

-- ---- the next generation
-- a choice of three
first_case : (b c : Bool) (x y z : ℕ) → b ≡ true → (if b then x else if c then y else z) ≡ x
first_case b c x y z is = rw is refl

second_case : (b c : Bool) (x y z : ℕ) → b ≡ false → c ≡ true → (if b then x else if c then y else z) ≡ y
second_case b c x y z isnt is = rw (isnt, is) refl

third_case : (b c : Bool) (x y z : ℕ) → b ≡ false → c ≡ false → (if b then x else if c then y else z) ≡ z
third_case b c x y z isnt neither = rw (isnt, neither) refl

-- what id a pair has after
module _ (p : Setting) (g : Generation) (rules : List Active) (q : Qos) where
  pub id_default : same_qos q p.default_qos ≡ true → id_after p g rules q ≡ 5
  id_default is = first_case (same_qos q p.default_qos) (has_bearer p g.rules q) 5 (g.id_of q) (unwrap_or (free_id p g rules) default_id) is

  pub id_kept : same_qos q p.default_qos ≡ false → has_bearer p g.rules q ≡ true → id_after p g rules q ≡ g.id_of q
  id_kept isnt had = second_case (same_qos q p.default_qos) (has_bearer p g.rules q) 5 (g.id_of q) (unwrap_or (free_id p g rules) default_id) isnt had

  pub id_new : same_qos q p.default_qos ≡ false → has_bearer p g.rules q ≡ false → id_after p g rules q ≡ unwrap_or (free_id p g rules) default_id
  id_new isnt new = third_case (same_qos q p.default_qos) (has_bearer p g.rules q) 5 (g.id_of q) (unwrap_or (free_id p g rules) default_id) isnt new

-- ids after, one generation on
module _ (p : Setting) (g : Generation) (rules : List Active) (bound : IsBound p g) (follows : Follows p g rules) where
  others_after : (q : Qos) → has_bearer p rules q ≡ true → same_qos q p.default_qos ≡ false →
      (6 ≤ id_after p g rules q) × (id_after p g rules q ≤ 15)
  others_after q has isnt =
      elim (cases_Bool (has_bearer p g.rules q)) [
        | inl had ↦ subst (λ id. (6 ≤ id) × (id ≤ 15)) (sym (id_kept p g rules q isnt had)) (bound.others q had isnt)
        | inr new ↦
            subst (λ id. (6 ≤ id) × (id ≤ 15)) (sym (id_new p g rules q isnt new))
            (free_in_range p g rules (follows.finds q has new))
      ]

  -- a pair that keeps its id, and a new one
  apart : (q r : Qos) → has_bearer p rules q ≡ true → same_qos q p.default_qos ≡ false → has_bearer p g.rules q ≡ true →
      has_bearer p rules r ≡ true → same_qos r p.default_qos ≡ false → has_bearer p g.rules r ≡ false →
      id_after p g rules q ≡ id_after p g rules r → ⊥
  apart q r has isnt had has2 isnt2 new same =
      let own : g.id_of q ≡ unwrap_or (free_id p g rules) default_id = sym (id_kept p g rules q isnt had) ∙ same ∙ id_new p g rules r isnt2 new in
      elim (or_cases (same_qos q p.default_qos) (list_any (λ (s : Active). same_qos q s.properties.qos) rules) has) [
        | inl is ↦ contrary (same_qos q p.default_qos) is isnt
        | inr there ↦
            kept_apart (λ s. has_bearer p g.rules s) g.id_of (unwrap_or (free_id p g rules) default_id) q rules there had
            (free_unused p g rules (follows.finds r has2 new)) own
      ]

  distinct_others : (q r : Qos) → has_bearer p rules q ≡ true → same_qos q p.default_qos ≡ false →
      has_bearer p rules r ≡ true → same_qos r p.default_qos ≡ false → id_after p g rules q ≡ id_after p g rules r → q ≡ r
  distinct_others q r has isnt has2 isnt2 same =
      elim (cases_Bool (has_bearer p g.rules q)) [
        | inl had ↦ elim (cases_Bool (has_bearer p g.rules r)) [
          | inl had2 ↦ bound.distinct q r had had2 (sym (id_kept p g rules q isnt had) ∙ same ∙ id_kept p g rules r isnt2 had2)
          | inr new2 ↦ absurd (apart q r has isnt had has2 isnt2 new2 same)
        ]
        | inr new ↦ elim (cases_Bool (has_bearer p g.rules r)) [
          | inl had2 ↦ absurd (apart r q has2 isnt2 had2 has isnt new (sym same))
          | inr new2 ↦ follows.one q r has new has2 new2
        ]
      ]

  -- the default pair, and another
  default_apart : (q r : Qos) → same_qos q p.default_qos ≡ true → has_bearer p rules r ≡ true → same_qos r p.default_qos ≡ false →
      id_after p g rules q ≡ id_after p g rules r → ⊥
  default_apart q r is has isnt same =
      let five : id_after p g rules q ≡ 5 = id_default p g rules q is in
      let range : (6 ≤ id_after p g rules r) × (id_after p g rules r ≤ 15) = others_after r has isnt in
      five_isnt (id_after p g rules q) (id_after p g rules r) five range.0 same
    where
      five_isnt : (a b : ℕ) → a ≡ 5 → 6 ≤ b → a ≡ b → ⊥
      five_isnt a b is more same = omega arith

  distinct_after : (q r : Qos) → has_bearer p rules q ≡ true → has_bearer p rules r ≡ true →
      id_after p g rules q ≡ id_after p g rules r → q ≡ r
  distinct_after q r has has2 same =
      elim (cases_Bool (same_qos q p.default_qos)) [
        | inl is ↦ elim (cases_Bool (same_qos r p.default_qos)) [
          | inl is2 ↦ same_qos_is q p.default_qos is ∙ sym (same_qos_is r p.default_qos is2)
          | inr isnt2 ↦ absurd (default_apart q r is has2 isnt2 same)
        ]
        | inr isnt ↦ elim (cases_Bool (same_qos r p.default_qos)) [
          | inl is2 ↦ absurd (default_apart r q is2 has isnt (sym same))
          | inr isnt2 ↦ distinct_others q r has isnt has2 isnt2 same
        ]
      ]

  bound_after : (on session : List (List ℕ)) → IsBound p (record { rules = rules; id_of = id_after p g rules; on = on; session = session })
  bound_after on session = record {
    once = follows.once;
    five = λ q is. id_default p g rules q is;
    others = others_after;
    distinct = distinct_after;
  }

-- before the first table command
bound_at_first : (p : Setting) → IsBound p before_all
unfolding Once
bound_at_first p = record {
  once = tt;
  five = λ q is. refl;
  others = λ q has isnt. contrary (has_bearer p [] q) has (or_from (same_qos q p.default_qos) false isnt refl);
  distinct = λ q r has has2 same. same_qos_is q p.default_qos (alone q has) ∙ sym (same_qos_is r p.default_qos (alone r has2));
}
  where
    alone : (q : Qos) → has_bearer p [] q ≡ true → same_qos q p.default_qos ≡ true
    alone q has = elim (or_cases (same_qos q p.default_qos) false has) [ inl is ↦ is | inr is ↦ absurd (true≢false (sym is)) ]

-- ---- commands
-- the condition at a place
nth : {R : Type 0} → ℕ → Conditions R → Bool
nth n [] = false
nth zero (c ∷ cs) = c.0
nth (suc n) (c ∷ cs) = nth n cs

-- an answer is an answer
some_isnt : {R : Type 0} (r : R) → Some r ≡ None → ⊥
some_isnt r is = cc

-- where none is answered, none holds
none_holds : {R : Type 0} (n : ℕ) (cs : Conditions R) → first_of cs ≡ None → nth n cs ≡ false
unfolding nth
none_holds n [] none = refl
none_holds zero (c ∷ cs) none = false_from_ne_true c.0 (λ holds. some_isnt c.1 (rw holds at none))
none_holds (suc n) (c ∷ cs) none =
    elim (cases_Bool c.0) [
      | inl holds ↦ absurd (some_isnt c.1 (rw holds at none))
      | inr isnt ↦ none_holds n cs (rw isnt at none)
    ]

-- accepted commands bring rules that may come
follows_command : (p : Setting) (j : Journal) (c : Command) → IsBound p (now p j) → first_of (refusals p j c) ≡ None → changes p j c ≡ true →
    Follows p (now p j) (rules_after p (now p j) c)
unfolding nth
follows_command p j c bound accepted changing =
    elim (rule_change p c) [
      | inl makes ↦
          let binds = (can_become p j makes.0.properties (activation_accepted p j c makes.0 accepted changing makes.1)).binds in
          let others = without makes.0.properties.name (now p j).rules in
          subst (Follows p (now p j)) (sym (rules_put p (now p j) c makes.0 makes.1))
          (follows_put p (now p j) makes.0 bound (none_holds 3 (bindings p (now p j) makes.0.properties others) binds))
      | inr none ↦ subst (Follows p (now p j)) (sym (rules_left p (now p j) c none)) (follows_filter p (now p j) (stays (now p j) c) bound)
    ]

-- ---- journals
-- an accepted command
bound_after_command : (p : Setting) (j : Journal) (c : Command) → IsBound p (now p j) →
    first_of (refusals p j c) ≡ None → changes p j c ≡ true → IsBound p (now p (entry.Command c ∷ j))
bound_after_command p j c bound accepted change =
    elim (cases_Bool (is_table c)) [
      | inl is ↦ subst (IsBound p) (sym (now_after_table p j c is))
          (bound_after p (now p j) (rules_after p (now p j) c) bound (follows_command p j c bound accepted change) (next p (now p j) c).on (next p (now p j) c).session)
      | inr isnt ↦ subst (λ cs. IsBound p (made_by p cs)) (sym (tables_of_other j c isnt)) bound
    ]

-- reports and rows leave the generation
bound_after_tell : (p : Setting) (ts : List PendingReport) (j : Journal) → IsBound p (now p j) → IsBound p (now p (with_reports p ts j))
bound_after_tell p ts j bound = subst (λ cs. IsBound p (made_by p cs)) (sym (tell_tables p ts j)) bound

bound_after_rows : (p : Setting) (rs : List Row) (j : Journal) → IsBound p (now p j) → IsBound p (now p (with_rows rs j))
unfolding with_rows
bound_after_rows p [] j bound = bound
bound_after_rows p (r ∷ rs) j bound = bound_after_rows p rs (entry.Row r ∷ j) bound

bound_after_flush : (p : Setting) (rs : List Row) (j : Journal) → IsBound p (now p j) → IsBound p (now p (after_flush p j rs))
bound_after_flush p [] j bound = bound
bound_after_flush p (r ∷ rs) j bound =
    bound_after_tell p (thresholds p (with_rows (r ∷ rs) j)) (with_rows (r ∷ rs) j) (bound_after_rows p (r ∷ rs) j bound)

-- what holds of every lawful journal
pub lawful_bound : (p : Setting) (j : Journal) → Lawful p j → IsBound p (now p j)
unfolding after_command made_by
lawful_bound p _ at_first = bound_at_first p
lawful_bound p _ (by_command j c l accepted changes) =
    bound_after_tell p _ _ (bound_after_tell p _ _ (bound_after_command p j c (lawful_bound p j l) accepted changes))
lawful_bound p _ (by_attach j l accepted) = lawful_bound p j l
lawful_bound p _ (by_leave j worker l there) = lawful_bound p j l
lawful_bound p _ (by_flush j worker rs l accepted follows) = bound_after_flush p rs j (lawful_bound p j l)

-- pairs of equal ids are the same pair
pub lawful_distinct : (p : Setting) (j : Journal) → Lawful p j → (q r : Qos) →
    has_bearer p (now p j).rules q ≡ true → has_bearer p (now p j).rules r ≡ true → (now p j).id_of q ≡ (now p j).id_of r →
    same_qos q r ≡ true
lawful_distinct p j l q r has has2 same =
    subst (λ s. same_qos q s ≡ true) ((lawful_bound p j l).distinct q r has has2 same) (same_qos_self q)

-- the default pair has 5, and each other 6 to 15
id_in_range : (p : Setting) (g : Generation) → IsBound p g → (q : Qos) → has_bearer p g.rules q ≡ true → (5 ≤ g.id_of q) × (g.id_of q ≤ 15)
id_in_range p g bound q has =
    elim (cases_Bool (same_qos q p.default_qos)) [
      | inl is ↦ five (g.id_of q) (bound.five q is)
      | inr isnt ↦ more (g.id_of q) (bound.others q has isnt)
    ]
  where
    five : (n : ℕ) → n ≡ 5 → (5 ≤ n) × (n ≤ 15)
    five n is = (omega arith, omega arith)

    more : (n : ℕ) → (6 ≤ n) × (n ≤ 15) → (5 ≤ n) × (n ≤ 15)
    more n range = (omega (arith, range.0), range.1)

pub lawful_in_range : (p : Setting) (j : Journal) → Lawful p j → (q : Qos) → has_bearer p (now p j).rules q ≡ true →
    (5 ≤ (now p j).id_of q) × ((now p j).id_of q ≤ 15)
lawful_in_range p j l q has = id_in_range p (now p j) (lawful_bound p j l) q has
