-- What holds of each active rule of a lawful journal, and of all.
use Rattle.std.proofs.Common.{◌≡◌, ◌∙◌, ◌≤◌, ◌&&◌, ◌+◌, ℕ, Bool, true, false, List, [], ◌∷◌, ◌++◌, Contains, Some, None, filter, length, nat_le, nat_lt, refl, sym, ap, subst, arith, inl, inr}
use Rattle.std.specs.Prelude.{Option, is_none, is_some}
use Rattle.std.specs.Option.{option_map}
use Rattle.pcef_base.proofs.Keeping.{filter_length}
use Rattle.pcef_base.proofs.Tests.{contrary}
use Rattle.pcef_catalog.specs.declared.listing.Offer.{Offer}
use Rattle.pcef_rule.specs.QciKinds.{kind_of}
use Rattle.pcef_rule.specs.declared.rule.Properties.{Properties}
use Rattle.pcef_model.specs.declared.answer.Refusal.{Refusal}
use Rattle.pcef_model.specs.declared.answer.Refusal.TheVariants as refusal
use Rattle.pcef_model.specs.declared.command.Command.{Command}
use Rattle.pcef_model.specs.declared.command.Command.TheVariants.{Install, Activate, Remove, Monitor, Stop, ReportNow, Triggers, Notice, LoseBearer, Close, Terminate}
use Rattle.pcef_model.specs.declared.entry.Entry.TheVariants as entry
use Rattle.pcef_model.specs.declared.pending_report.PendingReport.{PendingReport}
use Rattle.pcef_model.specs.declared.row.Row.{Row}
use Rattle.pcef_model.specs.ActiveRules.{Active, Detection, by_filters, by_shape, dynamic, predefined, without}
use Rattle.pcef_model.specs.Bearers.{is_gbr, is_non_gbr, rate_down, rate_up}
use Rattle.pcef_model.specs.Commands.{activated}
use Rattle.pcef_model.specs.Entries.{Journal}
use Rattle.pcef_model.specs.Generations.{Generation, made_by, rules_after, stays}
use Rattle.pcef_model.specs.Journals.{now, report_count, tables}
use Rattle.pcef_model.specs.Lawful.{Lawful, at_first, by_attach, by_command, by_flush, by_leave}
use Rattle.pcef_model.specs.Outcomes.{changes}
use Rattle.pcef_model.specs.Refusals.{Conditions, becoming_active, bindings, common_refusals, finds_no_bearer, first_of, limited_count, own_refusals, refusals, total_down, total_up, was_closed, was_terminated}
use Rattle.pcef_model.specs.Reports.{after_command, after_flush, body_of, plan, thresholds, with_reports, with_rows}
use Rattle.pcef_model.specs.Setting.{Setting, offer_named}
use Rattle.pcef_model.proofs.Acceptance.{activate_named, activation_accepted, can_become, condition_none, conditions_none, few_put}
use Rattle.pcef_model.proofs.Decisive.{made_once}
use Rattle.pcef_model.proofs.JournalExtends.{tables_after_flush}
use Rattle.pcef_model.proofs.Members.{filter_from, put_cases}
use Rattle.pcef_model.proofs.RulesAfter.{name_activated, rule_change, rules_left, rules_put}
use Rattle.pcef_model.proofs.RulesNow.{rules_then}
use Rattle.pcef_renewal.specs.Renewal.{rule_again}

-- ---- each
-- what holds of each rule that an accepted command makes active holds of each that is active
pub each_active : (p : Setting) (P : Active → Type 0) →
    ((j : Journal) (c : Command) (r : Active) → first_of (refusals p j c) ≡ None → changes p j c ≡ true → activated p c ≡ Some r → P r) →
    (j : Journal) → Lawful p j → (r : Active) → Contains (now p j).rules r → P r
unfolding made_by
each_active p P made _ at_first r there = absurd (omega (arith, there.1))
each_active p P made _ (by_command j c l accepted changing) r there =
    let later : Contains (rules_after p (now p j) c) r = subst (λ rs. Contains rs r) (rules_then p j c) there in
    elim (rule_change p c) [
      | inl makes ↦
          elim (put_cases makes.0 (now p j).rules r (made_once p (tables j)) (subst (λ rs. Contains rs r) (rules_put p (now p j) c makes.0 makes.1) later)) [
            | inl new ↦ subst P new (made j c makes.0 accepted changing makes.1)
            | inr old ↦ each_active p P made j l r old.0
          ]
      | inr none ↦
          each_active p P made j l r (filter_from (stays (now p j) c) (now p j).rules r (subst (λ rs. Contains rs r) (rules_left p (now p j) c none) later)).0
    ]
each_active p P made _ (by_attach j l accepted) r there = each_active p P made j l r there
each_active p P made _ (by_leave j worker l attached) r there = each_active p P made j l r there
each_active p P made _ (by_flush j worker rs l accepted follows) r there =
    each_active p P made j l r (subst (λ (cs : List Command). Contains (made_by p cs).rules r) (tables_after_flush p j rs) there)

-- a rule isn't predefined where it is found by its filters
abbrev pub IsNamedFor : Setting → List ℕ → Detection → Type 0
IsNamedFor p name (by_filters filters) = is_some (offer_named p name) ≡ false
IsNamedFor p name (by_shape shape) = is_none (offer_named p name) ≡ false

-- a rule may become active again, as far as it doesn't hang on others
pub record MayReturn (p : Setting) (r : Active) : Type 0 where
  pub returns : activated p (rule_again r) ≡ Some r
  pub named : IsNamedFor p r.properties.name r.detection
  pub qci : is_none (kind_of p.qcis r.properties.qos.qci.0) ≡ false
  pub missing : (is_gbr (kind_of p.qcis r.properties.qos.qci.0) && is_none r.properties.rates) ≡ false
  pub unwanted : (is_non_gbr (kind_of p.qcis r.properties.qos.qci.0) && is_some r.properties.rates) ≡ false

-- a binding that isn't refused
record Binds (p : Setting) (rule : Properties) : Type 0 where
  qci : is_none (kind_of p.qcis rule.qos.qci.0) ≡ false
  missing : (is_gbr (kind_of p.qcis rule.qos.qci.0) && is_none rule.rates) ≡ false
  unwanted : (is_non_gbr (kind_of p.qcis rule.qos.qci.0) && is_some rule.rates) ≡ false

three_none : (a b c : Bool) (x y z : Refusal) (cs : Conditions Refusal) → first_of ((a, x) ∷ (b, y) ∷ (c, z) ∷ cs) ≡ None → (a ≡ false) × (b ≡ false) × (c ≡ false)
three_none a b c x y z cs none =
    let one = condition_none a x ((b, y) ∷ (c, z) ∷ cs) none in
    let two = condition_none b y ((c, z) ∷ cs) one.1 in
    (one.0, two.0, (condition_none c z cs two.1).0)

binds_now : (p : Setting) (g : Generation) (rule : Properties) (others : List Active) → first_of (bindings p g rule others) ≡ None → Binds p rule
binds_now p g rule others none =
    let last : Conditions Refusal =
    (finds_no_bearer p g rule others, refusal.TooManyBearers) ∷
    (nat_lt p.capacity.up (total_up others + rate_up rule.rates), refusal.OverCapacityUp) ∷
    (nat_lt p.capacity.down (total_down others + rate_down rule.rates), refusal.OverCapacityDown) ∷ [] in
    let three = three_none (is_none (kind_of p.qcis rule.qos.qci.0)) (is_gbr (kind_of p.qcis rule.qos.qci.0) && is_none rule.rates)
    (is_non_gbr (kind_of p.qcis rule.qos.qci.0) && is_some rule.rates) refusal.UnknownQci refusal.RatesMissing refusal.RatesNotWanted last none in
    record { qci = three.0; missing = three.1; unwanted = three.2 }

-- ---- a rule that comes may return
comes_named : (p : Setting) (j : Journal) (c : Command) (r : Active) → first_of (refusals p j c) ≡ None → activated p c ≡ Some r →
    (activated p (rule_again r) ≡ Some r) × IsNamedFor p r.properties.name r.detection
comes_named p j (Install rule) r accepted is =
    let own = (conditions_none (common_refusals p j) (own_refusals p j (Install rule)) accepted).1 in
    let free : is_some (offer_named p rule.properties.name) ≡ false =
    (condition_none (is_some (offer_named p rule.properties.name)) refusal.NameIsPredefined (becoming_active p j rule.properties) own).0 in
    let same : dynamic rule ≡ r = cc in
    subst (λ (s : Active). (activated p (rule_again s) ≡ Some s) × IsNamedFor p s.properties.name s.detection) same (refl, free)
comes_named p j (Activate name) r accepted is = from (offer_named p name) refl is (activate_named p j name accepted)
  where
    from : (o : Option Offer) → offer_named p name ≡ o → option_map predefined o ≡ Some r → is_none (offer_named p name) ≡ false →
        (activated p (rule_again r) ≡ Some r) × IsNamedFor p r.properties.name r.detection
    from None there made known = absurd cc
    from (Some o) there made known =
        let same : predefined o ≡ r = cc in
        let name_is : r.properties.name ≡ name = name_activated p name r is in
        let own : o.properties.name ≡ name = ap (λ (s : Active). s.properties.name) same ∙ name_is in
        let again : activated p (rule_again (predefined o)) ≡ Some r = ap (λ n. activated p (Activate n)) own ∙ is in
        let known_own : is_none (offer_named p o.properties.name) ≡ false = ap (λ n. is_none (offer_named p n)) own ∙ known in
        subst (λ (s : Active). (activated p (rule_again s) ≡ Some r) × IsNamedFor p s.properties.name s.detection) same (again, known_own)
comes_named p j (Remove name) r accepted is = absurd cc
comes_named p j (Monitor key amount level) r accepted is = absurd cc
comes_named p j (Stop key) r accepted is = absurd cc
comes_named p j (ReportNow key) r accepted is = absurd cc
comes_named p j (Triggers set) r accepted is = absurd cc
comes_named p j (Notice kind value) r accepted is = absurd cc
comes_named p j (LoseBearer id) r accepted is = absurd cc
comes_named p j Close r accepted is = absurd cc
comes_named p j Terminate r accepted is = absurd cc

pub may_return : (p : Setting) (j : Journal) → Lawful p j → (r : Active) → Contains (now p j).rules r → MayReturn p r
may_return p =
    each_active p (MayReturn p) (λ j c r accepted changing is.
    let named = comes_named p j c r accepted is in
    let binds = binds_now p (now p j) r.properties (without r.properties.name (now p j).rules) (can_become p j r.properties (activation_accepted p j c r accepted changing is)).binds in
    record { returns = named.0; named = named.1; qci = binds.qci; missing = binds.missing; unwanted = binds.unwanted })

-- ---- all
pub few_rules : (p : Setting) (j : Journal) → Lawful p j → length (now p j).rules ≤ 64
unfolding made_by
few_rules p _ at_first = omega arith
few_rules p _ (by_command j c l accepted changing) =
    let few = few_rules p j l in
    subst (λ (rs : List Active). length rs ≤ 64) (sym (rules_then p j c))
    (elim (rule_change p c) [
      | inl makes ↦
          subst (λ (rs : List Active). length rs ≤ 64) (sym (rules_put p (now p j) c makes.0 makes.1))
          (few_put p j makes.0 few (activation_accepted p j c makes.0 accepted changing makes.1))
      | inr none ↦
          subst (λ (rs : List Active). length rs ≤ 64) (sym (rules_left p (now p j) c none))
          (omega (arith, few, filter_length (stays (now p j) c) (now p j).rules))
    ])
few_rules p _ (by_attach j l accepted) = few_rules p j l
few_rules p _ (by_leave j worker l there) = few_rules p j l
few_rules p _ (by_flush j worker rs l accepted follows) =
    subst (λ (cs : List Command). length (made_by p cs).rules ≤ 64) (sym (tables_after_flush p j rs)) (few_rules p j l)

-- ---- a closed session has no rules
closed_told : (p : Setting) (ts : List PendingReport) (j : Journal) → was_closed (with_reports p ts j) ≡ was_closed j
unfolding with_reports
closed_told p [] j = refl
closed_told p (t ∷ ts) j = closed_told p ts (entry.Report (record { number = report_count j; body = body_of p j t }) ∷ j)

closed_rows : (rs : List Row) (j : Journal) → was_closed (with_rows rs j) ≡ was_closed j
unfolding with_rows
closed_rows [] j = refl
closed_rows (r ∷ rs) j = closed_rows rs (entry.Row r ∷ j)

pub closed_after : (p : Setting) (j : Journal) (c : Command) → was_closed (after_command p j c) ≡ was_closed (entry.Command c ∷ j)
unfolding after_command
closed_after p j c =
    closed_told p (thresholds p (with_reports p (plan p j c) (entry.Command c ∷ j))) (with_reports p (plan p j c) (entry.Command c ∷ j))
    ∙ closed_told p (plan p j c) (entry.Command c ∷ j)

pub closed_flushed : (p : Setting) (j : Journal) (rs : List Row) → was_closed (after_flush p j rs) ≡ was_closed j
closed_flushed p j [] = refl
closed_flushed p j (r ∷ rs) = closed_told p (thresholds p (with_rows (r ∷ rs) j)) (with_rows (r ∷ rs) j) ∙ closed_rows (r ∷ rs) j

-- a command of the others isn't accepted by a closed session
not_closed : (p : Setting) (j : Journal) → first_of (common_refusals p j) ≡ None → was_closed j ≡ false
not_closed p j none =
    let full : Conditions Refusal = (nat_le p.commands (limited_count j), refusal.CommandsFull) ∷ [] in
    (condition_none (was_closed j) refusal.Closed full (condition_none (was_terminated j) refusal.Terminated ((was_closed j, refusal.Closed) ∷ full) none).1).0

open_before : (p : Setting) (j : Journal) (c : Command) → first_of (common_refusals p j ++ own_refusals p j c) ≡ None → was_closed j ≡ false
open_before p j c accepted = not_closed p j (conditions_none (common_refusals p j) (own_refusals p j c) accepted).0

none_stay : (rules : List Active) → filter (λ r. false) rules ≡ []
none_stay [] = refl
none_stay (r ∷ rules) = none_stay rules

empties : (p : Setting) (j : Journal) (c : Command) → first_of (refusals p j c) ≡ None → was_closed (entry.Command c ∷ j) ≡ true → rules_after p (now p j) c ≡ []
empties p j Close accepted closed = none_stay (now p j).rules
empties p j Terminate accepted closed = none_stay (now p j).rules
empties p j (Install rule) accepted closed = contrary (was_closed j) closed (open_before p j (Install rule) accepted)
empties p j (Activate name) accepted closed = contrary (was_closed j) closed (open_before p j (Activate name) accepted)
empties p j (Remove name) accepted closed = contrary (was_closed j) closed (open_before p j (Remove name) accepted)
empties p j (Monitor key amount level) accepted closed = contrary (was_closed j) closed (open_before p j (Monitor key amount level) accepted)
empties p j (Stop key) accepted closed = contrary (was_closed j) closed (open_before p j (Stop key) accepted)
empties p j (ReportNow key) accepted closed = contrary (was_closed j) closed (open_before p j (ReportNow key) accepted)
empties p j (Triggers set) accepted closed = contrary (was_closed j) closed (open_before p j (Triggers set) accepted)
empties p j (Notice kind value) accepted closed = contrary (was_closed j) closed (open_before p j (Notice kind value) accepted)
empties p j (LoseBearer id) accepted closed = contrary (was_closed j) closed (open_before p j (LoseBearer id) accepted)

pub closed_empty : (p : Setting) (j : Journal) → Lawful p j → was_closed j ≡ true → (now p j).rules ≡ []
unfolding made_by
closed_empty p _ at_first closed = refl
closed_empty p _ (by_command j c l accepted changing) closed =
    rules_then p j c ∙ empties p j c accepted (sym (closed_after p j c) ∙ closed)
closed_empty p _ (by_attach j l accepted) closed = closed_empty p j l closed
closed_empty p _ (by_leave j worker l there) closed = closed_empty p j l closed
closed_empty p _ (by_flush j worker rs l accepted follows) closed =
    ap (λ (cs : List Command). (made_by p cs).rules) (tables_after_flush p j rs) ∙ closed_empty p j l (sym (closed_flushed p j rs) ∙ closed)
