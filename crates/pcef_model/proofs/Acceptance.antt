-- What an accepted command may do.
use Rattle.std.proofs.Common.{◌≡◌, ◌≤◌, ◌+◌, ℕ, Bool, true, false, not, ◌&&◌, List, [], ◌∷◌, ◌++◌, length, refl, arith, Some, None, nat_le, inl, inr, subst}
use Rattle.std.specs.Prelude.{is_none, is_some, ◌==◌, if◌then◌else◌, Option}
use Rattle.std.proofs.lemmas.Bool.{cases_Bool, leb-false}
use Rattle.pcef_rule.specs.declared.rule.Properties.{Properties}
use Rattle.pcef_rule.specs.Definition.{Definition}
use Rattle.pcef_catalog.specs.declared.listing.Offer.{Offer}
use Rattle.pcef_model.specs.declared.command.Command.TheVariants.{Install, Activate, Remove, Monitor, Stop, ReportNow, Triggers, Notice, LoseBearer, Close, Terminate}
use Rattle.pcef_model.specs.declared.level.Level.{Level}
use Rattle.pcef_model.specs.declared.level.Level.TheVariants.{Rule}
use Rattle.pcef_model.specs.Setting.{most_rules, Setting, offer_named}
use Rattle.pcef_model.specs.ActiveRules.{Active, is_named, put, without, dynamic, predefined}
use Rattle.pcef_model.specs.Entries.{Journal}
use Rattle.pcef_model.specs.Commands.{is_among, activated}
use Rattle.pcef_model.specs.Journals.{now, slots}
use Rattle.pcef_model.specs.Outcomes.{changes}
use Rattle.pcef_model.specs.declared.answer.Refusal.{Refusal}
use Rattle.pcef_model.specs.declared.answer.Refusal.TheVariants as refusal
use Rattle.pcef_model.specs.Refusals.{Conditions, becoming_active, becoming_active_if, bindings, clashes, common_refusals, finds_no_slot, first_of, is_active, refusals}
use Rattle.pcef_model.proofs.Names.{put_length}
use Rattle.pcef_model.specs.declared.command.Command.{Command}
use Rattle.std.specs.Option.{option_map}

-- ---- no condition holds
pub condition_none : {R : Type 0} (b : Bool) (r : R) (cs : Conditions R) → first_of ((b, r) ∷ cs) ≡ None → (b ≡ false) × (first_of cs ≡ None)
condition_none true r cs none = absurd cc
condition_none false r cs none = (refl, none)

pub conditions_none : {R : Type 0} (cs ds : Conditions R) → first_of (cs ++ ds) ≡ None → (first_of cs ≡ None) × (first_of ds ≡ None)
conditions_none [] ds none = (refl, none)
conditions_none (c ∷ cs) ds none =
    elim (cases_Bool c.0) [
      | inl is ↦ absurd (let some : Some c.1 ≡ None = rw is at none in cc)
      | inr isnt ↦ let rest = conditions_none cs ds (rw isnt at none) in (rw isnt rest.0, rest.1)
    ]

-- ---- a rule that becomes active
pub record CanBecome (p : Setting) (j : Journal) (rule : Properties) : Type 0 where
  pub place : (not (is_active p j rule.name) && nat_le most_rules (length (now p j).rules)) ≡ false
  pub level : clashes p j Rule rule.key ≡ false
  pub slot : finds_no_slot p j rule.key ≡ false
  pub binds : first_of (bindings p (now p j) rule (without rule.name (now p j).rules)) ≡ None

pub can_become : (p : Setting) (j : Journal) (rule : Properties) → first_of (becoming_active p j rule) ≡ None → CanBecome p j rule
can_become p j rule accepted =
    let last : Conditions Refusal = bindings p (now p j) rule (without rule.name (now p j).rules) in
    let first = condition_none (not (is_active p j rule.name) && nat_le most_rules (length (now p j).rules)) refusal.RulesFull ((clashes p j Rule rule.key, refusal.LevelClash) ∷ (finds_no_slot p j rule.key, refusal.KeysFull) ∷ last) accepted in
    let level = condition_none (clashes p j Rule rule.key) refusal.LevelClash ((finds_no_slot p j rule.key, refusal.KeysFull) ∷ last) first.1 in
    let second = condition_none (finds_no_slot p j rule.key) refusal.KeysFull last level.1 in
    record { place = first.0; level = level.0; slot = second.0; binds = second.1 }

-- a rule that is installed can become active
pub install_accepted : (p : Setting) (j : Journal) (rule : Definition) → first_of (refusals p j (Install rule)) ≡ None → first_of (becoming_active p j rule.properties) ≡ None
install_accepted p j rule accepted =
    let own = (conditions_none (common_refusals p j) ((is_some (offer_named p rule.properties.name), refusal.NameIsPredefined) ∷ becoming_active p j rule.properties) accepted).1 in
    (condition_none (is_some (offer_named p rule.properties.name)) refusal.NameIsPredefined (becoming_active p j rule.properties) own).1

-- and one that is activated, where it isn't active
pub activate_accepted : (p : Setting) (j : Journal) (name : List ℕ) (o : Offer) → first_of (refusals p j (Activate name)) ≡ None → changes p j (Activate name) ≡ true → offer_named p name ≡ Some o →
    first_of (becoming_active p j o.properties) ≡ None
activate_accepted p j name o accepted changing there =
    let rest : Conditions Refusal = if is_active p j name then [] else becoming_active_if p j (offer_named p name) in
    let own = (conditions_none (common_refusals p j) ((is_none (offer_named p name), refusal.UnknownRule) ∷ rest) accepted).1 in
    let last = (condition_none (is_none (offer_named p name)) refusal.UnknownRule rest own).1 in
    let isnt : is_active p j name ≡ false = not_active (is_active p j name) changing in
    rw (isnt, there) at last
  where
    not_active : (b : Bool) → not b ≡ true → b ≡ false
    not_active true is = absurd cc
    not_active false is = refl

-- the name of an accepted Activate is one of the catalog
pub activate_named : (p : Setting) (j : Journal) (name : List ℕ) → first_of (refusals p j (Activate name)) ≡ None → is_none (offer_named p name) ≡ false
activate_named p j name accepted =
    let rest : Conditions Refusal = if is_active p j name then [] else becoming_active_if p j (offer_named p name) in
    let own = (conditions_none (common_refusals p j) ((is_none (offer_named p name), refusal.UnknownRule) ∷ rest) accepted).1 in
    (condition_none (is_none (offer_named p name)) refusal.UnknownRule rest own).0

-- a key that is monitored has a slot or finds one, and keeps its level
pub monitor_accepted : (p : Setting) (j : Journal) (key : List ℕ) (amount : ℕ) (level : Level) → first_of (refusals p j (Monitor key amount level)) ≡ None →
    (clashes p j level (Some key) ≡ false) × (finds_no_slot p j (Some key) ≡ false)
monitor_accepted p j key amount level accepted =
    let slot : Conditions Refusal = (finds_no_slot p j (Some key), refusal.KeysFull) ∷ [] in
    let own = (conditions_none (common_refusals p j) ((amount == 0, refusal.ZeroGrant) ∷ (clashes p j level (Some key), refusal.LevelClash) ∷ slot) accepted).1 in
    let rest = condition_none (clashes p j level (Some key)) refusal.LevelClash slot (condition_none (amount == 0) refusal.ZeroGrant ((clashes p j level (Some key), refusal.LevelClash) ∷ slot) own).1 in
    (rest.0, (condition_none (finds_no_slot p j (Some key)) refusal.KeysFull [] rest.1).0)

put_longer : (new : Active) (rules : List Active) → length (put new rules) ≤ length rules + 1
put_longer new [] = omega arith
put_longer new (r ∷ rules) =
    let rest = put_longer new rules in
    elim (cases_Bool (is_named new.properties.name r)) [ inl is ↦ rw is (omega arith) | inr isnt ↦ rw isnt (omega (arith, rest)) ]

pub few_put : (p : Setting) (j : Journal) (r : Active) → length (now p j).rules ≤ 64 → first_of (becoming_active p j r.properties) ≡ None → length (put r (now p j).rules) ≤ 64
few_put p j r few accepted =
    let can = can_become p j r.properties accepted in
    elim (cases_Bool (is_active p j r.properties.name)) [
      | inl there ↦ let same = put_length (λ (r : Active). r.properties.name) r (now p j).rules there in omega (arith, same, few)
      | inr new ↦
          let place : nat_le most_rules (length (now p j).rules) ≡ false = rw new at can.place in
          omega (arith, put_longer r (now p j).rules, leb-false most_rules (length (now p j).rules) place)
    ]

-- a key that is stopped is on, and one that is asked for has a slot
not_not : (b : Bool) → not b ≡ false → b ≡ true
not_not true is = refl
not_not false is = absurd cc

pub stop_accepted : (p : Setting) (j : Journal) (key : List ℕ) → first_of (refusals p j (Stop key)) ≡ None → is_among key (now p j).on ≡ true
stop_accepted p j key accepted =
    let own = (conditions_none (common_refusals p j) ((not (is_among key (now p j).on), refusal.UnknownKey) ∷ []) accepted).1 in
    not_not (is_among key (now p j).on) (condition_none (not (is_among key (now p j).on)) refusal.UnknownKey [] own).0

pub report_accepted : (p : Setting) (j : Journal) (key : List ℕ) → first_of (refusals p j (ReportNow key)) ≡ None → is_among key (slots p j) ≡ true
report_accepted p j key accepted =
    let own = (conditions_none (common_refusals p j) ((not (is_among key (slots p j)), refusal.UnknownKey) ∷ []) accepted).1 in
    not_not (is_among key (slots p j)) (condition_none (not (is_among key (slots p j))) refusal.UnknownKey [] own).0

-- a rule that an accepted command makes active may become so
pub activation_accepted : (p : Setting) (j : Journal) (c : Command) (r : Active) → first_of (refusals p j c) ≡ None → changes p j c ≡ true → activated p c ≡ Some r →
    first_of (becoming_active p j r.properties) ≡ None
activation_accepted p j (Install rule) r accepted changing is =
    let same : dynamic rule ≡ r = cc in subst (λ (x : Active). first_of (becoming_active p j x.properties) ≡ None) same (install_accepted p j rule accepted)
activation_accepted p j (Activate name) r accepted changing is = from (offer_named p name) refl is
  where
    from : (o : Option Offer) → offer_named p name ≡ o → option_map predefined o ≡ Some r → first_of (becoming_active p j r.properties) ≡ None
    from None there is = absurd cc
    from (Some o) there is =
        let same : predefined o ≡ r = cc in subst (λ (x : Active). first_of (becoming_active p j x.properties) ≡ None) same (activate_accepted p j name o accepted changing there)
activation_accepted p j (Remove name) r accepted changing is = absurd cc
activation_accepted p j (Monitor key amount level) r accepted changing is = absurd cc
activation_accepted p j (Stop key) r accepted changing is = absurd cc
activation_accepted p j (ReportNow key) r accepted changing is = absurd cc
activation_accepted p j (Triggers set) r accepted changing is = absurd cc
activation_accepted p j (Notice kind value) r accepted changing is = absurd cc
activation_accepted p j (LoseBearer id) r accepted changing is = absurd cc
activation_accepted p j Close r accepted changing is = absurd cc
activation_accepted p j Terminate r accepted changing is = absurd cc
