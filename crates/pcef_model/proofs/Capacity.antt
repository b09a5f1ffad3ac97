-- In every lawful journal the guaranteed rates of the active rules are within the capacity.
use Rattle.std.proofs.Common.{◌≡◌, ◌≤◌, ◌+◌, Bool, true, false, ◌&&◌, List, [], ◌∷◌, sym, ap, subst, arith, inl, inr, filter, None, nat_lt}
use Rattle.std.specs.Prelude.{is_none, is_some}
use Rattle.std.specs.List.{list_any}
use Rattle.std.proofs.lemmas.Bool.{cases_Bool, ltb-false}
use Rattle.pcef_rule.specs.declared.rule.Properties.{Properties}
use Rattle.pcef_rule.specs.QciKinds.{kind_of}
use Rattle.pcef_model.specs.declared.command.Command.{Command}
use Rattle.pcef_model.specs.Setting.{Setting}
use Rattle.pcef_model.specs.ActiveRules.{Active, is_named, put, without}
use Rattle.pcef_model.specs.Generations.{Generation, made_by, rules_after, stays}
use Rattle.pcef_model.specs.Entries.{Journal}
use Rattle.pcef_model.specs.Commands.{is_table}
use Rattle.pcef_model.specs.Journals.{now, tables}
use Rattle.pcef_model.proofs.Growth.{now_after_table, tables_of_other}
use Rattle.pcef_model.proofs.Sameness.{same_name_is}
use Rattle.pcef_model.proofs.AfterEvents.{now_after}
use Rattle.pcef_model.specs.declared.answer.Refusal.{Refusal}
use Rattle.pcef_model.specs.declared.answer.Refusal.TheVariants as refusal
use Rattle.pcef_model.specs.Outcomes.{changes}
use Rattle.pcef_model.specs.Lawful.{Lawful, at_first, by_attach, by_command, by_flush, by_leave}
use Rattle.pcef_model.specs.Refusals.{Conditions, bindings, finds_no_bearer, first_of, refusals, total_down, total_up}
use Rattle.pcef_model.specs.Bearers.{is_gbr, is_non_gbr, rate_down, rate_up, sum_up, sum_down}
use Rattle.pcef_model.proofs.Acceptance.{activation_accepted, can_become, condition_none}
use Rattle.pcef_model.proofs.BoundRules.{NamesOnce}
use Rattle.pcef_model.proofs.Names.{Once, without_none}
use Rattle.pcef_model.proofs.Decisive.{made_once}
use Rattle.pcef_model.proofs.RulesAfter.{rule_change, rules_left, rules_put}
use Rattle.pcef_model.proofs.JournalExtends.{tables_after_flush}

-- ---- sums
-- fewer rules have no higher sum
pub fewer_up : (t : Active → Bool) (rules : List Active) → total_up (filter t rules) ≤ total_up rules
unfolding sum_up
fewer_up t [] = omega arith
fewer_up t (r ∷ rules) = let rest = fewer_up t rules in elim (cases_Bool (t r)) [ inl is ↦ rw is (omega (arith, rest)) | inr isnt ↦ rw isnt (omega (arith, rest)) ]

pub fewer_down : (t : Active → Bool) (rules : List Active) → total_down (filter t rules) ≤ total_down rules
unfolding sum_down
fewer_down t [] = omega arith
fewer_down t (r ∷ rules) = let rest = fewer_down t rules in elim (cases_Bool (t r)) [ inl is ↦ rw is (omega (arith, rest)) | inr isnt ↦ rw isnt (omega (arith, rest)) ]

stay : (new r : Active) (rules : List Active) → is_named new.properties.name r ≡ true → list_any (is_named r.properties.name) rules ≡ false → without new.properties.name rules ≡ rules
stay new r rules is once = without_none (λ (r : Active). r.properties.name) new.properties.name rules (subst (λ name. list_any (is_named name) rules ≡ false) (same_name_is r.properties.name new.properties.name is) once)

-- a rule that is put in adds its rates to those of the others
pub put_up : (new : Active) (rules : List Active) → NamesOnce rules → total_up (put new rules) ≡ total_up (without new.properties.name rules) + rate_up new.properties.rates
unfolding sum_up Once
put_up new [] once = omega arith
put_up new (r ∷ rules) once =
    elim (cases_Bool (is_named new.properties.name r)) [
      | inl is ↦ rw (is, stay new r rules is once.0) (omega arith)
      | inr isnt ↦ let rest = put_up new rules once.1 in rw isnt (omega (arith, rest))
    ]

pub put_down : (new : Active) (rules : List Active) → NamesOnce rules → total_down (put new rules) ≡ total_down (without new.properties.name rules) + rate_down new.properties.rates
unfolding sum_down Once
put_down new [] once = omega arith
put_down new (r ∷ rules) once =
    elim (cases_Bool (is_named new.properties.name r)) [
      | inl is ↦ rw (is, stay new r rules is once.0) (omega arith)
      | inr isnt ↦ let rest = put_down new rules once.1 in rw isnt (omega (arith, rest))
    ]

-- ---- rules that may be active
pub record IsWithin (p : Setting) (rules : List Active) : Type 0 where
  pub up : total_up rules ≤ p.capacity.up
  pub down : total_down rules ≤ p.capacity.down

within_filter : (p : Setting) (t : Active → Bool) (rules : List Active) → IsWithin p rules → IsWithin p (filter t rules)
within_filter p t rules within = record { up = omega (arith, within.up, fewer_up t rules); down = omega (arith, within.down, fewer_down t rules) }

within_none : (p : Setting) → IsWithin p []
unfolding sum_up sum_down
within_none p = record { up = omega arith; down = omega arith }

-- a binding that isn't refused keeps within the capacity
within_bound : (p : Setting) (g : Generation) (rule : Properties) (others : List Active) → first_of (bindings p g rule others) ≡ None →
    (total_up others + rate_up rule.rates ≤ p.capacity.up) × (total_down others + rate_down rule.rates ≤ p.capacity.down)
within_bound p g rule others none =
    let over_down : Conditions Refusal = (nat_lt p.capacity.down (total_down others + rate_down rule.rates), refusal.OverCapacityDown) ∷ [] in
    let over_up : Conditions Refusal = (nat_lt p.capacity.up (total_up others + rate_up rule.rates), refusal.OverCapacityUp) ∷ over_down in
    let too_many : Conditions Refusal = (finds_no_bearer p g rule others, refusal.TooManyBearers) ∷ over_up in
    let unwanted : Conditions Refusal = (is_non_gbr (kind_of p.qcis rule.qos.qci.0) && is_some rule.rates, refusal.RatesNotWanted) ∷ too_many in
    let missing : Conditions Refusal = (is_gbr (kind_of p.qcis rule.qos.qci.0) && is_none rule.rates, refusal.RatesMissing) ∷ unwanted in
    let a = condition_none (is_none (kind_of p.qcis rule.qos.qci.0)) refusal.UnknownQci missing none in
    let b = condition_none (is_gbr (kind_of p.qcis rule.qos.qci.0) && is_none rule.rates) refusal.RatesMissing unwanted a.1 in
    let c = condition_none (is_non_gbr (kind_of p.qcis rule.qos.qci.0) && is_some rule.rates) refusal.RatesNotWanted too_many b.1 in
    let d = condition_none (finds_no_bearer p g rule others) refusal.TooManyBearers over_up c.1 in
    let e = condition_none (nat_lt p.capacity.up (total_up others + rate_up rule.rates)) refusal.OverCapacityUp over_down d.1 in
    let f = condition_none (nat_lt p.capacity.down (total_down others + rate_down rule.rates)) refusal.OverCapacityDown [] e.1 in
    (ltb-false p.capacity.up (total_up others + rate_up rule.rates) e.0, ltb-false p.capacity.down (total_down others + rate_down rule.rates) f.0)

within_put : (p : Setting) (g : Generation) (new : Active) (rules : List Active) → NamesOnce rules → first_of (bindings p g new.properties (without new.properties.name rules)) ≡ None → IsWithin p (put new rules)
within_put p g new rules once none =
    let fits = within_bound p g new.properties (without new.properties.name rules) none in
    record { up = omega (arith, fits.0, put_up new rules once); down = omega (arith, fits.1, put_down new rules once) }

-- ---- commands
after_within : (p : Setting) (j : Journal) (c : Command) → IsWithin p (now p j).rules → first_of (refusals p j c) ≡ None → changes p j c ≡ true → IsWithin p (rules_after p (now p j) c)
after_within p j c within accepted changing =
    elim (rule_change p c) [
      | inl makes ↦
          let binds = (can_become p j makes.0.properties (activation_accepted p j c makes.0 accepted changing makes.1)).binds in
          subst (IsWithin p) (sym (rules_put p (now p j) c makes.0 makes.1)) (within_put p (now p j) makes.0 (now p j).rules (made_once p (tables j)) binds)
      | inr none ↦ subst (IsWithin p) (sym (rules_left p (now p j) c none)) (within_filter p (stays (now p j) c) (now p j).rules within)
    ]

pub lawful_within : (p : Setting) (j : Journal) → Lawful p j → IsWithin p (now p j).rules
unfolding made_by
lawful_within p j at_first = within_none p
lawful_within p _ (by_command j c lawful accepted changing) =
    let before = lawful_within p j lawful in
    let after = after_within p j c before accepted changing in
    subst (λ (g : Generation). IsWithin p g.rules) (sym (now_after p j c))
    (elim (cases_Bool (is_table c)) [
      | inl is ↦ subst (λ (g : Generation). IsWithin p g.rules) (sym (now_after_table p j c is)) after
      | inr isnt ↦ subst (λ (g : Generation). IsWithin p g.rules) (sym (ap (made_by p) (tables_of_other j c isnt))) before
    ])
lawful_within p _ (by_attach j lawful accepted) = lawful_within p j lawful
lawful_within p _ (by_leave j worker lawful attached) = lawful_within p j lawful
lawful_within p _ (by_flush j worker rows lawful accepted follow) =
    subst (λ (g : Generation). IsWithin p g.rules) (sym (ap (made_by p) (tables_after_flush p j rows))) (lawful_within p j lawful)
