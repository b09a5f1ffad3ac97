-- What a command reports by itself: rules that go with their bearer, and keys that it ends.
use Rattle.std.proofs.Common.{◌==◌, map}
use Rattle.pcef_model.specs.declared.pending_report.PendingReport.TheVariants.{Inactive}
use Rattle.pcef_model.specs.Reports.{in_order}
use Rattle.pcef_bearer.specs.Bindings.{Binding, rules_on}
use Rattle.pcef_bearer.specs.Standing.{binding_of, bound_of}
use Rattle.pcef_session.specs.private.Changes.{inactive_by}
use Rattle.pcef_session.specs.private.Keys.{end_cause, is_ended}
use Rattle.std.proofs.Common.{◌≡◌, ◌∙◌, Bool, true, false, ◌&&◌, ◌||◌, not, ℕ, List, [], ◌∷◌, refl, sym, ap, inl, inr, filter, None, Some, ◌++◌, append_assoc}
use Rattle.std.specs.Prelude.{Option, ◌≢◌}
use Rattle.std.specs.List.{list_any}
use Rattle.std.specs.Option.{option_map_or}
use Rattle.std.proofs.lemmas.Bool.{cases_Bool, or_parts}
use Rattle.pcef_rule.specs.declared.rule.Properties.{Properties}
use Rattle.pcef_table.specs.declared.entry.TableEntry.{TableEntry}
use Rattle.pcef_table.specs.Sources.{properties_of}
use Rattle.pcef_table.specs.Tables.{TableValue}
use Rattle.pcef_model.proofs.Names.{Once}
use Rattle.pcef_model.specs.declared.command.Command.{Command}
use Rattle.pcef_model.specs.declared.command.Command.TheVariants.{Install, Activate, Remove, Monitor, Stop, ReportNow, Triggers, Notice, LoseBearer, Close, Terminate}
use Rattle.pcef_model.specs.declared.report.Cause.{Cause}
use Rattle.pcef_model.specs.declared.report.Cause.TheVariants.{RulesGone}
use Rattle.pcef_model.specs.declared.pending_report.PendingReport.TheVariants.{Usage}
use Rattle.pcef_model.specs.Setting.{Setting, same_name}
use Rattle.pcef_model.specs.ActiveRules.{Active, has_key, is_key, is_named, put, without}
use Rattle.pcef_model.specs.Generations.{Generation, rules_after}
use Rattle.pcef_model.specs.Entries.{Journal}
use Rattle.pcef_model.specs.Journals.{at, gen, now, tables}
use Rattle.pcef_model.specs.Reports.{requested, keys_ended, inactive, noticed, plan}
use Rattle.pcef_model.proofs.Growth.{at_newest}
use Rattle.pcef_model.proofs.Sameness.{same_name_is}
use Rattle.pcef_usage.specs.declared.usage.KeyState.{KeyState}
use Rattle.pcef_usage.specs.Commands.{loses_rules, usage_of}
use Rattle.pcef_usage.proofs.Plans.{ended_by_states, lost_by_states}
use Rattle.pcef_session.specs.private.Parts.{Agrees, Parts}
use Rattle.pcef_session.specs.declared.prepared.Activation.{Activation}
use Rattle.pcef_session.specs.private.Keys.{some_entry, comes_named, stays_with, comes_with, is_lost}
use Rattle.pcef_session.specs.private.Keys as kept
use Rattle.pcef_session.specs.Shown.{Shows, StandsFor}
use Rattle.pcef_model.proofs.BoundRules.{NamesOnce}
use Rattle.pcef_base.proofs.Found.{any_from}
use Rattle.pcef_model.proofs.Decisive.{made_once}
use Rattle.pcef_session.proofs.ShownVerdicts.{rule_is}
use Rattle.pcef_session.proofs.NextTables.{all_count_from, all_on_from}
use Rattle.pcef_session.specs.Preparing.{Activates}
use Rattle.pcef_model.specs.Commands.{activated, takes_away}
use Rattle.pcef_session.proofs.ShownChanges.{name_is, only_now, each_now}
use Rattle.pcef_model.proofs.RulesAfter.{rules_left, rules_put}
use Rattle.pcef_session.proofs.Tests.{or_swap, same_test, any_there, any_filter}

-- an entry's rule passes the tests of the rule that it stands for
tested : (p : Setting) (j : Journal) (g : ℕ) (e : TableEntry) (r : Active) (test : Properties → Bool) → StandsFor p j g e r →
    option_map_or test (properties_of p.catalog e.source) false ≡ test r.properties
tested p j g e r test stands = ap (λ o. option_map_or test o false) (rule_is p.catalog e.source r stands.rule_is).properties_are

-- the rule of some entry passes a test where some active rule does
pub some_shown : (p : Setting) (j : Journal) (g : ℕ) (t : TableValue) (test : Properties → Bool) → Shows p j g t →
    some_entry p.catalog test t.entries ≡ list_any (λ r. test r.properties) (at p j g).rules
some_shown p j g t test shows =
    same_test (some_entry p.catalog test t.entries) (list_any (λ r. test r.properties) (at p j g).rules)
    (λ some.
    let w = any_there (λ (e : TableEntry). option_map_or test (properties_of p.catalog e.source) false) t.entries some in
    let v = shows.only w.0 w.1 in
    any_from (λ (r : Active). test r.properties) (at p j g).rules v.0 v.1 (sym (tested p j g w.0 v.0 test v.2) ∙ w.2))
    (λ some.
    let w = any_there (λ (r : Active). test r.properties) (at p j g).rules some in
    let v = shows.each w.0 w.1 in
    any_from (λ (e : TableEntry). option_map_or test (properties_of p.catalog e.source) false) t.entries v.0 v.1 (tested p j g v.0 w.0 test v.2 ∙ w.2))

-- and in the newest generation
pub some_now : (p : Setting) (j : Journal) (t : TableValue) (test : Properties → Bool) → Shows p j (gen j) t →
    some_entry p.catalog test t.entries ≡ list_any (λ r. test r.properties) (now p j).rules
some_now p j t test shows =
    some_shown p j (gen j) t test shows ∙ ap (λ (g : Generation). list_any (λ r. test r.properties) g.rules) (at_newest p j)

-- ---- the keys of rules
-- where none has a name, the rules without it have the keys of all
has_key_all : (k name : List ℕ) (rules : List Active) → list_any (is_named name) rules ≡ false → has_key k (without name rules) ≡ has_key k rules
has_key_all k name [] none = refl
has_key_all k name (r ∷ rules) none =
    let parts = or_parts (is_named name r) (list_any (is_named name) rules) none in
    rw parts.0 (ap (λ b. is_key k r.properties.key || b) (has_key_all k name rules parts.1))

-- after a put the new rule has a key, or one of another name
pub has_key_put : (k : List ℕ) (new : Active) (rules : List Active) → NamesOnce rules →
    has_key k (put new rules) ≡ (is_key k new.properties.key || has_key k (without new.properties.name rules))
unfolding Once
has_key_put k new [] once = refl
has_key_put k new (r ∷ rules) once =
    elim (cases_Bool (is_named new.properties.name r)) [
      | inl is ↦
          let none : list_any (is_named new.properties.name) rules ≡ false =
          ap (λ name. list_any (is_named name) rules) (sym (same_name_is r.properties.name new.properties.name is)) ∙ once.0 in
          rw is (ap (λ b. is_key k new.properties.key || b) (sym (has_key_all k new.properties.name rules none)))
      | inr isnt ↦
          rw isnt (ap (λ b. is_key k r.properties.key || b) (has_key_put k new rules once.1)
          ∙ or_swap (is_key k r.properties.key) (is_key k new.properties.key) (has_key k (without new.properties.name rules)))
    ]

-- ---- the rules that stay
abbrev rule_stays : Generation → Command → Option Activation → Active → Bool
rule_stays g c x r = not (comes_named x r.properties.name || takes_away c r.properties.name (g.id_of r.properties.qos))

filter_alike : {X : Type 0} (f g : X → Bool) (xs : List X) → ((x : X) → f x ≡ g x) → filter f xs ≡ filter g xs
filter_alike f g [] same = refl
filter_alike f g (x ∷ xs) same =
    elim (cases_Bool (g x)) [
      | inl is ↦ let here : f x ≡ true = same x ∙ is in rw (is, here) (ap (λ ys. x ∷ ys) (filter_alike f g xs same))
      | inr isnt ↦ let here : f x ≡ false = same x ∙ isnt in rw (isnt, here) (filter_alike f g xs same)
    ]

or_no_more : (b : Bool) → (b || false) ≡ b
or_no_more true = refl
or_no_more false = refl

-- a command that makes a rule active takes none away
takes_none : (p : Setting) (c : Command) (r : Active) (name : List ℕ) (id : ℕ) → activated p c ≡ Some r → takes_away c name id ≡ false
takes_none p (Install rule) r name id is = refl
takes_none p (Activate other) r name id is = refl
takes_none p (Remove other) r name id is = absurd cc
takes_none p (Monitor key amount level) r name id is = absurd cc
takes_none p (Stop key) r name id is = absurd cc
takes_none p (ReportNow key) r name id is = absurd cc
takes_none p (Triggers set) r name id is = absurd cc
takes_none p (Notice kind value) r name id is = absurd cc
takes_none p (LoseBearer bearer) r name id is = absurd cc
takes_none p Close r name id is = absurd cc
takes_none p Terminate r name id is = absurd cc

-- the rules after a command have a key where the one that comes has it, or one that stays
comes_or_stays : (p : Setting) (g : Generation) (c : Command) (o : Option Active) (x : Option Activation) (k : List ℕ) → activated p c ≡ o → Activates p o x → NamesOnce g.rules →
    (comes_with x k || has_key k (filter (rule_stays g c x) g.rules)) ≡ has_key k (rules_after p g c)
comes_or_stays p g c None None k is prepared once = ap (has_key k) (sym (rules_left p g c is))
comes_or_stays p g c None (Some x) k is prepared once = absurd prepared
comes_or_stays p g c (Some r) None k is prepared once = absurd prepared
comes_or_stays p g c (Some r) (Some x) k is prepared once =
    ap (λ (q : Properties). is_key k q.key || has_key k (filter (λ s. not (same_name s.properties.name q.name || takes_away c s.properties.name (g.id_of s.properties.qos))) g.rules)) prepared.properties_are
    ∙ ap (λ rules. is_key k r.properties.key || has_key k rules)
    (filter_alike (λ s. not (same_name s.properties.name r.properties.name || takes_away c s.properties.name (g.id_of s.properties.qos))) (λ s. not (is_named r.properties.name s)) g.rules
    (λ s. ap (λ b. not b) (ap (λ b. same_name s.properties.name r.properties.name || b) (takes_none p c r s.properties.name (g.id_of s.properties.qos) is) ∙ or_no_more (same_name s.properties.name r.properties.name))))
    ∙ sym (has_key_put k r g.rules once) ∙ ap (has_key k) (sym (rules_put p g c r is))

-- the entries of a table that shows the generation are of the same rules
stays_alike : (p : Setting) (j : Journal) (c : Command) (x : Option Activation) (k : List ℕ) (e : TableEntry) (r : Active) → StandsFor p j (gen j) e r →
    stays_with p.catalog c x k e ≡ (rule_stays (now p j) c x r && is_key k r.properties.key)
stays_alike p j c x k e r stands =
    let named = name_is p j (gen j) e r stands in
    let bearer : e.bearer.0 ≡ (now p j).id_of r.properties.qos = stands.bearer_is ∙ ap (λ (g : Generation). g.id_of r.properties.qos) (at_newest p j) in
    ap (λ b. b && option_map_or (kept.has_key k) (properties_of p.catalog e.source) false)
    (ap (λ name. not (comes_named x name || takes_away c name e.bearer.0)) named ∙ ap (λ id. not (comes_named x r.properties.name || takes_away c r.properties.name id)) bearer)
    ∙ ap (λ b. rule_stays (now p j) c x r && b) (tested p j (gen j) e r (kept.has_key k) stands)

some_stay : (p : Setting) (j : Journal) (c : Command) (x : Option Activation) (t : TableValue) (k : List ℕ) → Shows p j (gen j) t →
    list_any (stays_with p.catalog c x k) t.entries ≡ has_key k (filter (rule_stays (now p j) c x) (now p j).rules)
some_stay p j c x t k shows =
    let g : Generation = now p j in
    same_test (list_any (stays_with p.catalog c x k) t.entries) (list_any (λ r. rule_stays g c x r && is_key k r.properties.key) g.rules)
    (λ some.
    let w = any_there (stays_with p.catalog c x k) t.entries some in
    let v = only_now p j t shows w.0 w.1 in
    any_from (λ (r : Active). rule_stays g c x r && is_key k r.properties.key) g.rules v.0 v.1 (sym (stays_alike p j c x k w.0 v.0 v.2) ∙ w.2))
    (λ some.
    let w = any_there (λ (r : Active). rule_stays g c x r && is_key k r.properties.key) g.rules some in
    let v = each_now p j t shows w.0 w.1 in
    any_from (stays_with p.catalog c x k) t.entries v.0 v.1 (stays_alike p j c x k v.0 w.0 v.2 ∙ w.2))
    ∙ sym (any_filter (λ (r : Active). is_key k r.properties.key) (λ (r : Active). rule_stays g c x r) g.rules)

-- ---- keys that are lost
lost_alike : (p : Setting) (j : Journal) (c : Command) (x : Option Activation) (t : TableValue) (s : KeyState) → Activates p (activated p c) x → NamesOnce (now p j).rules → Shows p j (gen j) t →
    is_lost p.catalog t.entries c x s ≡ loses_rules (now p j).rules (rules_after p (now p j) c) s
lost_alike p j c x t s prepared once shows =
    rw (some_now p j t (kept.has_key s.key) shows, some_stay p j c x t s.key shows, comes_or_stays p (now p j) c (activated p c) x s.key refl prepared once) refl

-- tests that are alike report alike
usage_alike : (cause : Cause) (mine other : KeyState → Bool) (states : List KeyState) → ((s : KeyState) → mine s ≡ other s) → usage_of cause mine states ≡ usage_of cause other states
usage_alike cause mine other [] same = refl
usage_alike cause mine other (s ∷ states) same =
    elim (cases_Bool (other s)) [
      | inl is ↦ let here : mine s ≡ true = same s ∙ is in rw (is, here) (ap (λ ts. Usage s.key cause ∷ ts) (usage_alike cause mine other states same))
      | inr isnt ↦ let here : mine s ≡ false = same s ∙ isnt in rw (isnt, here) (usage_alike cause mine other states same)
    ]

-- what a session reports of the keys that a command ends, a Terminate apart
pub ended_agree : (p : Setting) (j : Journal) (c : Command) (x : Option Activation) (parts : Parts) → Agrees p j parts → c ≢ Terminate → Activates p (activated p c) x →
    usage_of RulesGone (is_lost p.catalog parts.table.entries c x) parts.keys ≡ keys_ended p j c
ended_agree p j c x parts agrees differs prepared =
    usage_alike RulesGone (is_lost p.catalog parts.table.entries c x) (loses_rules (now p j).rules (rules_after p (now p j) c)) parts.keys
    (λ s. lost_alike p j c x parts.table s prepared (made_once p (tables j)) agrees.table_shows)
    ∙ lost_by_states p j c parts.keys differs agrees.keys_are (all_on_from p j parts.keys agrees.usage_is)

-- what a session reports of the keys that a command ends
pub ended_keys : (p : Setting) (j : Journal) (c : Command) (x : Option Activation) (parts : Parts) → Agrees p j parts → Activates p (activated p c) x →
    usage_of (end_cause c) (is_ended p.catalog parts.table.entries c x) parts.keys ≡ keys_ended p j c
ended_keys p j (Install rule) x parts agrees prepared = ended_agree p j (Install rule) x parts agrees (λ same. cc) prepared
ended_keys p j (Activate name) x parts agrees prepared = ended_agree p j (Activate name) x parts agrees (λ same. cc) prepared
ended_keys p j (Remove name) x parts agrees prepared = ended_agree p j (Remove name) x parts agrees (λ same. cc) prepared
ended_keys p j (Monitor key amount level) x parts agrees prepared = ended_agree p j (Monitor key amount level) x parts agrees (λ same. cc) prepared
ended_keys p j (Stop key) x parts agrees prepared = ended_agree p j (Stop key) x parts agrees (λ same. cc) prepared
ended_keys p j (ReportNow key) x parts agrees prepared = ended_agree p j (ReportNow key) x parts agrees (λ same. cc) prepared
ended_keys p j (Triggers set) x parts agrees prepared = ended_agree p j (Triggers set) x parts agrees (λ same. cc) prepared
ended_keys p j (Notice kind value) x parts agrees prepared = ended_agree p j (Notice kind value) x parts agrees (λ same. cc) prepared
ended_keys p j (LoseBearer id) x parts agrees prepared = ended_agree p j (LoseBearer id) x parts agrees (λ same. cc) prepared
ended_keys p j Close x parts agrees prepared = ended_agree p j Close x parts agrees (λ same. cc) prepared
ended_keys p j Terminate x parts agrees prepared =
    ended_by_states p j parts.keys agrees.keys_are (all_count_from p j parts.keys agrees.usage_is) (all_on_from p j parts.keys agrees.usage_is)

-- ---- the rules that go with a lost bearer
on_bearer : (g : Generation) (id : ℕ) (rules : List Active) →
    map (λ b. b.name) (rules_on id (bound_of g rules)) ≡ map (λ r. r.properties.name) (filter (λ r. g.id_of r.properties.qos == id) rules)
on_bearer g id [] = refl
on_bearer g id (r ∷ rules) =
    elim (cases_Bool (g.id_of r.properties.qos == id)) [
      | inl is ↦ rw is (ap (λ names. r.properties.name ∷ names) (on_bearer g id rules))
      | inr isnt ↦ rw isnt (on_bearer g id rules)
    ]

pub bearer_bound : (g : Generation) (id : ℕ) (rules : List Active) → list_any (λ b. b.bearer.0 == id) (bound_of g rules) ≡ list_any (λ r. g.id_of r.properties.qos == id) rules
bearer_bound g id [] = refl
bearer_bound g id (r ∷ rules) = ap (λ b. (g.id_of r.properties.qos == id) || b) (bearer_bound g id rules)

pub inactive_is : (p : Setting) (g : Generation) (c : Command) (b : Binding) → b ≡ binding_of p g → inactive_by b.bound c ≡ inactive g c
inactive_is p g (LoseBearer id) b is =
    ap (λ (d : Binding). map Inactive (in_order (map (λ b. b.name) (rules_on id.0 d.bound)))) is
    ∙ ap (λ names. map Inactive (in_order names)) (on_bearer g id.0 g.rules)
inactive_is p g (Install rule) b is = refl
inactive_is p g (Activate name) b is = refl
inactive_is p g (Remove name) b is = refl
inactive_is p g (Monitor key amount level) b is = refl
inactive_is p g (Stop key) b is = refl
inactive_is p g (ReportNow key) b is = refl
inactive_is p g (Triggers set) b is = refl
inactive_is p g (Notice kind value) b is = refl
inactive_is p g Close b is = refl
inactive_is p g Terminate b is = refl

-- what is planned part by part
pub plan_is : (p : Setting) (j : Journal) (c : Command) → ((inactive (now p j) c ++ keys_ended p j c) ++ requested c) ++ noticed j c ≡ plan p j c
plan_is p j c =
    append_assoc (inactive (now p j) c ++ keys_ended p j c) (requested c) (noticed j c)
    ∙ append_assoc (inactive (now p j) c) (keys_ended p j c) (requested c ++ noticed j c)
