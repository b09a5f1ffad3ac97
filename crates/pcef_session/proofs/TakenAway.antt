-- The rules that a command takes away: what it leaves of the table, and of what a session keeps by name.
use Rattle.std.proofs.Common.{◌≡◌, ◌∙◌, ◌+◌, ℕ, Bool, true, false, not, List, [], ◌∷◌, refl, sym, ap, subst, arith, inl, inr, filter, Contains, None}
use Rattle.std.specs.List.{list_any}
use Rattle.std.proofs.lemmas.Bool.{cases_Bool}
use Rattle.pcef_table.specs.declared.entry.TableEntry.{TableEntry}
use Rattle.pcef_table.specs.Tables.{IsTable, TableValue, is_taken, without_taken}
use Rattle.pcef_catalog.specs.declared.listing.Offer.{Offer}
use Rattle.pcef_bearer.specs.Bindings.{Binding}
use Rattle.pcef_model.specs.declared.command.Command.{Command}
use Rattle.pcef_model.specs.declared.command.Command.TheVariants.{Install, Activate, Remove, Monitor, Stop, ReportNow, Triggers, Notice, LoseBearer, Close, Terminate}
use Rattle.pcef_model.specs.declared.entry.Entry.TheVariants as entry
use Rattle.pcef_model.specs.Setting.{Setting, same_name}
use Rattle.pcef_model.specs.ActiveRules.{is_named as rule_named}
use Rattle.pcef_bearer.specs.Bindings.{is_bound_as}
use Rattle.pcef_model.specs.ActiveRules.{Active}
use Rattle.pcef_model.specs.Generations.{Generation, next, rules_after, stays}
use Rattle.pcef_model.specs.Commands.{switched, is_table, activated, takes_away}
use Rattle.pcef_model.specs.Entries.{Journal}
use Rattle.pcef_model.specs.Journals.{gen, now}
use Rattle.pcef_model.proofs.Growth.{at_newest}
use Rattle.pcef_session.specs.private.Keys.{key_switched}
use Rattle.pcef_session.specs.Shown.{Shows, ShowsSessionKeys, StandsFor}
use Rattle.pcef_model.specs.Slots.{counts_now}
use Rattle.pcef_base.proofs.Found.{any_from}
use Rattle.pcef_model.proofs.Members.{filter_from, filter_to, first_there, later_there}
use Rattle.pcef_session.proofs.ShownChanges.{Fives, each_now, name_is, only_now, shows_next, stands_next, still}
use Rattle.pcef_model.proofs.BoundRules.{NamesOnce}
use Rattle.pcef_session.specs.Agreement.{AreKept}
use Rattle.pcef_model.proofs.RulesAfter.{filter_all, rules_left}
use Rattle.pcef_active.specs.ByName.{NamedSource, is_still_bound, without_kept}
use Rattle.pcef_session.specs.private.Changes.{still_active}
use Rattle.pcef_session.proofs.Tests.{same_test, any_there}
use Rattle.pcef_model.proofs.Decisive.{once_is}
use Rattle.pcef_model.proofs.Sameness.{same_name_is, same_name_of}

pub filter_none : {X : Type 0} (xs : List X) → filter (λ x. false) xs ≡ []
filter_none [] = refl
filter_none (x ∷ xs) = filter_none xs

-- ---- the table: the entries of the rules that stay
-- an entry goes with its rule
pub taken_with : (p : Setting) (j : Journal) (c : Command) (e : TableEntry) (r : Active) → StandsFor p j (gen j) e r → not (is_taken p.catalog c e) ≡ stays (now p j) c r
taken_with p j c e r stands =
    ap (λ b. not b)
    (ap (λ name. takes_away c name e.bearer.0) (name_is p j (gen j) e r stands)
    ∙ ap (takes_away c r.properties.name) (stands.bearer_is ∙ ap (λ (g : Generation). g.id_of r.properties.qos) (at_newest p j)))

-- the rules that stay count as before
abbrev pub StayCounted : Setting → Generation → Command → Type 0
StayCounted p g c = (r : Active) → Contains (rules_after p g c) r → counts_now (switched c g.on) r.properties.key ≡ counts_now g.on r.properties.key

pub stay_counted : (p : Setting) (g : Generation) (c : Command) → activated p c ≡ None → key_switched c ≡ None → StayCounted p g c
stay_counted p g (Install rule) none switches r there = refl
stay_counted p g (Activate name) none switches r there = refl
stay_counted p g (Remove name) none switches r there = refl
stay_counted p g (Monitor key amount level) none switches r there = absurd cc
stay_counted p g (Stop key) none switches r there = absurd cc
stay_counted p g (ReportNow key) none switches r there = refl
stay_counted p g (Triggers set) none switches r there = refl
stay_counted p g (Notice kind value) none switches r there = refl
stay_counted p g (LoseBearer id) none switches r there = refl
stay_counted p g Close none switches r there = refl
stay_counted p g Terminate none switches r there =
    let nobody : Contains [] r = subst (λ rs. Contains rs r) (filter_none g.rules) there in absurd (omega (arith, nobody.1))

pub shows_left : (p : Setting) (j : Journal) (c : Command) (t : TableValue) (flags : List Bool) → activated p c ≡ None → is_table c ≡ true → StayCounted p (now p j) c → Fives p (now p j) → Shows p j (gen j) t →
    IsTable p.catalog (without_taken p.catalog c t.entries) → ShowsSessionKeys p (entry.Command c ∷ j) (gen (entry.Command c ∷ j)) flags →
    Shows p (entry.Command c ∷ j) (gen (entry.Command c ∷ j)) (record { number = t.number + 1; entries = without_taken p.catalog c t.entries; session = flags })
shows_left p j c t flags none is counted fives shows table session =
    let g : Generation = now p j in
    let left : rules_after p g c ≡ filter (stays g c) g.rules = rules_left p g c none in
    let on : (r : Active) → Contains (rules_after p g c) r → counts_now (next p g c).on r.properties.key ≡ counts_now g.on r.properties.key =
    λ r there. still g.rules (rules_after p g c) (switched c g.on) r there ∙ counted r there in
    shows_next p j c (record { number = t.number + 1; entries = without_taken p.catalog c t.entries; session = flags }) is (omega (arith, shows.number_is)) table session
    (λ r there.
    let kept = filter_from (stays g c) g.rules r (subst (λ rs. Contains rs r) left there) in
    let w = each_now p j t shows r kept.0 in (
      w.0,
      filter_to (λ e. not (is_taken p.catalog c e)) t.entries w.0 w.1 (taken_with p j c w.0 r w.2 ∙ kept.1),
      stands_next p j c w.0 r is fives kept.0 (on r there) w.2,
    ))
    (λ e there.
    let kept = filter_from (λ e. not (is_taken p.catalog c e)) t.entries e there in
    let w = only_now p j t shows e kept.0 in
    let after : Contains (rules_after p g c) w.0 = subst (λ rs. Contains rs w.0) (sym left) (filter_to (stays g c) g.rules w.0 w.1 (sym (taken_with p j c e w.0 w.2) ∙ kept.1)) in
    (w.0, after, stands_next p j c e w.0 is fives w.1 (on w.0 after) w.2))

-- ---- the rules by name
-- among rules of which each name stands once, one stays where some rule that stays has its name
named_stays : (test : Active → Bool) (rules : List Active) (r : Active) → NamesOnce rules → Contains rules r → list_any (rule_named r.properties.name) (filter test rules) ≡ test r
named_stays test rules r once there =
    same_test (list_any (rule_named r.properties.name) (filter test rules)) (test r)
    (λ some.
    let w = any_there (rule_named r.properties.name) (filter test rules) some in
    let old = filter_from test rules w.0 w.1 in
    let same : w.0 ≡ r = once_is rules w.0 r once old.0 there (same_name_is w.0.properties.name r.properties.name w.2) in
    ap test (sym same) ∙ old.1)
    (λ is. any_from (rule_named r.properties.name) (filter test rules) r (filter_to test rules r there is) (same_name_of r.properties.name r.properties.name refl))

kept_part : (offers : List Offer) (test : Active → Bool) (named : List ℕ → Bool) (kept : List NamedSource) (rules : List Active) →
    ((r : Active) → Contains rules r → named r.properties.name ≡ test r) → AreKept offers kept rules → AreKept offers (filter (λ e. named e.0) kept) (filter test rules)
kept_part offers test named [] [] same are = tt
kept_part offers test named [] (r ∷ rules) same are = absurd are
kept_part offers test named (e ∷ kept) [] same are = absurd are
kept_part offers test named (e ∷ kept) (r ∷ rules) same are =
    let here : named e.0 ≡ test r = ap named are.0 ∙ same r (first_there r rules) in
    let rest = kept_part offers test named kept rules (λ s there. same s (later_there r rules s there)) are.2 in
    elim (cases_Bool (test r)) [
      | inl is ↦ let stays : named e.0 ≡ true = here ∙ is in rw (is, stays) (are.0, are.1, rest)
      | inr isnt ↦ let goes : named e.0 ≡ false = here ∙ isnt in rw (isnt, goes) rest
    ]

-- after the loss of a bearer, those that are bound still
kept_left : (p : Setting) (g : Generation) (c : Command) (bound : Binding) (kept : List NamedSource) → NamesOnce g.rules → activated p c ≡ None →
    ((name : List ℕ) → list_any (is_bound_as name) bound.bound ≡ list_any (rule_named name) (rules_after p g c)) → AreKept p.catalog kept g.rules →
    AreKept p.catalog (filter (is_still_bound bound) kept) (rules_after p g c)
kept_left p g c bound kept once none named are =
    let left = rules_left p g c none in
    subst (AreKept p.catalog (filter (is_still_bound bound) kept)) (sym left)
    (kept_part p.catalog (stays g c) (λ name. list_any (is_bound_as name) bound.bound) kept g.rules
    (λ r there. named r.properties.name ∙ ap (list_any (rule_named r.properties.name)) left ∙ named_stays (stays g c) g.rules r once there) are)

-- where all stay
all_kept : (p : Setting) (g : Generation) (c : Command) (kept : List NamedSource) → activated p c ≡ None → stays g c ≡ (λ r. true) → AreKept p.catalog kept g.rules → AreKept p.catalog kept (rules_after p g c)
all_kept p g c kept none all are =
    subst (AreKept p.catalog kept) (sym (rules_left p g c none ∙ ap (λ (test : Active → Bool). filter test g.rules) all ∙ filter_all g.rules)) are

pub still_kept : (p : Setting) (g : Generation) (c : Command) (bound : Binding) (kept : List NamedSource) → NamesOnce g.rules → activated p c ≡ None →
    ((name : List ℕ) → list_any (is_bound_as name) bound.bound ≡ list_any (rule_named name) (rules_after p g c)) → AreKept p.catalog kept g.rules →
    AreKept p.catalog (still_active c bound kept) (rules_after p g c)
still_kept p g (Remove name) bound kept once none named are =
    subst (AreKept p.catalog (without_kept name kept)) (sym (rules_left p g (Remove name) none))
    (kept_part p.catalog (stays g (Remove name)) (λ n. not (same_name n name)) kept g.rules (λ r there. refl) are)
still_kept p g (LoseBearer id) bound kept once none named are = kept_left p g (LoseBearer id) bound kept once none named are
still_kept p g Close bound kept once none named are = subst (AreKept p.catalog []) (sym (rules_left p g Close none ∙ filter_none g.rules)) tt
still_kept p g Terminate bound kept once none named are = subst (AreKept p.catalog []) (sym (rules_left p g Terminate none ∙ filter_none g.rules)) tt
still_kept p g (Install rule) bound kept once none named are = all_kept p g (Install rule) kept none refl are
still_kept p g (Activate name) bound kept once none named are = all_kept p g (Activate name) kept none refl are
still_kept p g (Monitor key amount level) bound kept once none named are = all_kept p g (Monitor key amount level) kept none refl are
still_kept p g (Stop key) bound kept once none named are = all_kept p g (Stop key) kept none refl are
still_kept p g (ReportNow key) bound kept once none named are = all_kept p g (ReportNow key) kept none refl are
still_kept p g (Triggers set) bound kept once none named are = all_kept p g (Triggers set) kept none refl are
still_kept p g (Notice kind value) bound kept once none named are = all_kept p g (Notice kind value) kept none refl are
