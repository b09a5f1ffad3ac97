-- Sessions that are alike stay so.
use Rattle.std.proofs.Common.{◌≡◌, ◌∙◌, ◌==◌, ◌&&◌, ◌||◌, ℕ, Bool, true, false, not, List, [], ◌∷◌, Contains, Some, None, filter, refl, sym, ap, ap₂, subst, inl, inr}
use Rattle.std.specs.Prelude.{Option, if◌then◌else◌}
use Rattle.std.specs.Option.{option_map}
use Rattle.std.proofs.lemmas.Bool.{and_right, cases_Bool, false_from_ne_true, or_cases}
use Rattle.pcef_rule.specs.declared.quantity.BearerId.{BearerId}
use Rattle.pcef_catalog.specs.declared.listing.Offer.{Offer}
use Rattle.pcef_model.specs.declared.command.Command.{Command}
use Rattle.pcef_model.specs.declared.command.Command.TheVariants.{Install, Activate, Remove, Monitor, Stop, ReportNow, Triggers, Notice, LoseBearer, Close, Terminate}
use Rattle.pcef_model.specs.declared.entry.Entry.TheVariants as entry
use Rattle.pcef_model.specs.declared.level.Level.TheVariants.{Rule, Session}
use Rattle.pcef_model.specs.declared.row.Row.{Row}
use Rattle.pcef_model.specs.ActiveRules.{Active, has_key, is_key, is_named, predefined, put}
use Rattle.pcef_model.specs.Commands.{activated, at_session_level, is_among, is_table, key_named, key_offered, switched, takes_away}
use Rattle.pcef_model.specs.Entries.{Journal}
use Rattle.pcef_model.specs.Generations.{Generation, add_if_some, made_by, rules_after, slots_of, stays}
use Rattle.pcef_model.specs.Journals.{level_of, now, slots, subscribed, tables}
use Rattle.pcef_model.specs.Lawful.{Lawful}
use Rattle.pcef_model.specs.Outcomes.{changes}
use Rattle.pcef_model.specs.Refusals.{clashes, first_of, is_close, refusals, was_closed}
use Rattle.pcef_model.specs.Reports.{after_attach, after_command, after_flush, after_leave}
use Rattle.pcef_model.specs.Setting.{Setting, offer_named, same_name}
use Rattle.pcef_model.proofs.Acceptance.{activation_accepted, can_become, monitor_accepted}
use Rattle.pcef_model.proofs.AfterEvents.{tables_after}
use Rattle.pcef_model.proofs.BoundRules.{NamesOnce}
use Rattle.pcef_model.proofs.Decisive.{made_once}
use Rattle.pcef_model.proofs.Growth.{now_after_table, tables_of_other, tables_of_table}
use Rattle.pcef_model.proofs.JournalExtends.{tables_after_flush}
use Rattle.pcef_model.proofs.Levels.{among_add, levels_stay, session_has_slot, session_now}
use Rattle.pcef_model.proofs.Members.{filter_from, filter_to, put_cases, put_new, put_old}
use Rattle.pcef_model.proofs.RulesAfter.{makes_active, other_leaves, rule_change, rules_left, rules_put}
use Rattle.pcef_model.proofs.RulesNow.{now_after_other, rules_now}
use Rattle.pcef_model.proofs.Sameness.{same_name_is}
use Rattle.pcef_model.proofs.SlotsGrow.{HasSlot, rules_have_slots}
use Rattle.pcef_renewal.specs.Alike.{Alike, Renumbers, image}
use Rattle.pcef_renewal.specs.Likeness.{Like, is_kept}
use Rattle.pcef_renewal.proofs.ActiveFacts.{closed_after, closed_flushed}
use Rattle.pcef_renewal.proofs.Budget.{subscribed_after, subscribed_flushed}
use Rattle.pcef_renewal.proofs.FreeBearers.{has_own}
use Rattle.pcef_renewal.proofs.Likeness.{on_has_slot, same_any}
use Rattle.pcef_renewal.proofs.Order.{some_there}
use Rattle.pcef_renewal.proofs.Saying.{among_named}

-- ---- what both commands have in common
pub same_of : {Y : Type 0} (f : Command → Y) → ((n m : BearerId) → f (LoseBearer n) ≡ f (LoseBearer m)) → (number : ℕ → ℕ) (c : Command) → f (image number c) ≡ f c
same_of f lost number (LoseBearer n) = lost _ _
same_of f lost number (Install rule) = refl
same_of f lost number (Activate name) = refl
same_of f lost number (Remove name) = refl
same_of f lost number (Monitor key amount level) = refl
same_of f lost number (Stop key) = refl
same_of f lost number (ReportNow key) = refl
same_of f lost number (Triggers set) = refl
same_of f lost number (Notice kind value) = refl
same_of f lost number Close = refl
same_of f lost number Terminate = refl

takes_alike : (number : ℕ → ℕ) (c : Command) (name : List ℕ) (a b : ℕ) → ((n : ℕ) → (b == number n) ≡ (a == n)) → takes_away (image number c) name b ≡ takes_away c name a
takes_alike number (LoseBearer n) name a b same = same n.0
takes_alike number (Install rule) name a b same = refl
takes_alike number (Activate n) name a b same = refl
takes_alike number (Remove n) name a b same = refl
takes_alike number (Monitor key amount level) name a b same = refl
takes_alike number (Stop key) name a b same = refl
takes_alike number (ReportNow key) name a b same = refl
takes_alike number (Triggers set) name a b same = refl
takes_alike number (Notice kind value) name a b same = refl
takes_alike number Close name a b same = refl
takes_alike number Terminate name a b same = refl

-- ---- rules
moved : (p : Setting) (g h : Generation) (c d : Command) → NamesOnce g.rules → ((r : Active) → Contains g.rules r → Contains h.rules r) → activated p d ≡ activated p c →
    ((r : Active) → Contains g.rules r → stays h d r ≡ stays g c r) → (r : Active) → Contains (rules_after p g c) r → Contains (rules_after p h d) r
moved p g h c d once to same stay r there =
    elim (rule_change p c) [
      | inl makes ↦
          subst (λ (rs : List Active). Contains rs r) (sym (rules_put p h d makes.0 (same ∙ makes.1)))
          (elim (put_cases makes.0 g.rules r once (subst (λ (rs : List Active). Contains rs r) (rules_put p g c makes.0 makes.1) there)) [
            | inl new ↦ subst (λ (x : Active). Contains (put makes.0 h.rules) x) new (put_new makes.0 h.rules)
            | inr old ↦ put_old makes.0 h.rules r (to r old.0) old.1
          ])
      | inr none ↦
          let w = filter_from (stays g c) g.rules r (subst (λ (rs : List Active). Contains rs r) (rules_left p g c none) there) in
          subst (λ (rs : List Active). Contains rs r) (sym (rules_left p h d (same ∙ none))) (filter_to (stays h d) h.rules r (to r w.0) (stay r w.0 ∙ w.1))
    ]

-- ---- keys that are on
pub among_filter : (test : List ℕ → Bool) (key : List ℕ) (keys : List (List ℕ)) → is_among key (filter test keys) ≡ (is_among key keys && test key)
among_filter test key [] = refl
among_filter test key (x ∷ keys) =
    elim (cases_Bool (same_name key x)) [
      | inl same ↦
          let own : test x ≡ test key = ap test (sym (same_name_is key x same)) in
          elim (cases_Bool (test key)) [
            | inl is ↦ rw (same, own ∙ is, is) (rw same refl)
            | inr isnt ↦ rw (same, own ∙ isnt, isnt) (among_filter test key keys ∙ ap (λ b. is_among key keys && b) isnt ∙ and_right (is_among key keys) false refl)
          ]
      | inr differs ↦ elim (cases_Bool (test x)) [
        | inl is ↦ rw (is, differs) (among_filter test key keys)
        | inr isnt ↦ rw (isnt, differs) (among_filter test key keys)
      ]
    ]

other_switches : (c : Command) (on : List (List ℕ)) → is_table c ≡ false → switched c on ≡ on
other_switches (ReportNow key) on isnt = refl
other_switches (Triggers set) on isnt = refl
other_switches (Notice kind value) on isnt = refl
other_switches (Install rule) on isnt = absurd cc
other_switches (Activate name) on isnt = absurd cc
other_switches (Remove name) on isnt = absurd cc
other_switches (Monitor key amount level) on isnt = absurd cc
other_switches (Stop key) on isnt = absurd cc
other_switches (LoseBearer id) on isnt = absurd cc
other_switches Close on isnt = absurd cc
other_switches Terminate on isnt = absurd cc

abbrev pub still : Generation → List Active → List ℕ → Bool
still g after key = not (has_key key g.rules) || has_key key after

pub on_is : (p : Setting) (j : Journal) (c : Command) (key : List ℕ) →
    is_among key (now p (entry.Command c ∷ j)).on ≡ (is_among key (switched c (now p j).on) && still (now p j) (rules_after p (now p j) c) key)
on_is p j c key =
    elim (cases_Bool (is_table c)) [
      | inl is ↦ ap (λ (g : Generation). is_among key g.on) (now_after_table p j c is) ∙ among_filter (still (now p j) (rules_after p (now p j) c)) key (switched c (now p j).on)
      | inr isnt ↦
          ap (λ (g : Generation). is_among key g.on) (now_after_other p j c isnt)
          ∙ from (is_among key (now p j).on) (has_key key (now p j).rules)
          ∙ ap₂ (λ on rs. is_among key on && still (now p j) rs key) (sym (other_switches c (now p j).on isnt)) (sym (other_leaves p (now p j) c isnt))
    ]
  where
    from : (a b : Bool) → a ≡ (a && (not b || b))
    from true true = refl
    from true false = refl
    from false b = refl

pub switched_alike : (c : Command) (ks js : List (List ℕ)) → ((key : List ℕ) → is_among key ks ≡ is_among key js) → (key : List ℕ) → is_among key (switched c ks) ≡ is_among key (switched c js)
switched_alike (Monitor l amount level) ks js same key = among_add key l ks ∙ ap (λ b. b || same_name key l) (same key) ∙ sym (among_add key l js)
switched_alike (Stop l) ks js same key =
    among_filter (λ k. not (same_name l k)) key ks ∙ ap (λ b. b && not (same_name l key)) (same key) ∙ sym (among_filter (λ k. not (same_name l k)) key js)
switched_alike Terminate ks js same key = refl
switched_alike (Install rule) ks js same key = same key
switched_alike (Activate name) ks js same key = same key
switched_alike (Remove name) ks js same key = same key
switched_alike (ReportNow l) ks js same key = same key
switched_alike (Triggers set) ks js same key = same key
switched_alike (Notice kind value) ks js same key = same key
switched_alike (LoseBearer id) ks js same key = same key
switched_alike Close ks js same key = same key

-- ---- slots
other_names : (p : Setting) (c : Command) → is_table c ≡ false → key_named p c ≡ None
other_names p (ReportNow key) isnt = refl
other_names p (Triggers set) isnt = refl
other_names p (Notice kind value) isnt = refl
other_names p (Install rule) isnt = absurd cc
other_names p (Activate name) isnt = absurd cc
other_names p (Remove name) isnt = absurd cc
other_names p (Monitor key amount level) isnt = absurd cc
other_names p (Stop key) isnt = absurd cc
other_names p (LoseBearer id) isnt = absurd cc
other_names p Close isnt = absurd cc
other_names p Terminate isnt = absurd cc

pub slots_is : (p : Setting) (j : Journal) (c : Command) → slots p (entry.Command c ∷ j) ≡ add_if_some (key_named p c) (slots p j)
unfolding slots_of
slots_is p j c =
    elim (cases_Bool (is_table c)) [
      | inl is ↦ ap (slots_of p) (tables_of_table j c is)
      | inr isnt ↦ ap (slots_of p) (tables_of_other j c isnt) ∙ ap (λ named. add_if_some named (slots p j)) (sym (other_names p c isnt))
    ]

among_slots : (p : Setting) (j : Journal) (c : Command) (key : List ℕ) → is_among key (slots p (entry.Command c ∷ j)) ≡ (is_among key (slots p j) || is_key key (key_named p c))
among_slots p j c key = ap (is_among key) (slots_is p j c) ∙ among_named key (key_named p c) (slots p j)

-- ---- levels
-- whether a command names its key at session level
abbrev names_session : Command → Bool
names_session (Monitor key amount Session) = true
names_session _ = false

rule_level : (p : Setting) (j : Journal) (named : Option (List ℕ)) (key : List ℕ) → clashes p j Rule named ≡ false → is_key key named ≡ true → is_among key (now p j).session ≡ false
rule_level p j None key clash is = absurd cc
rule_level p j (Some l) key clash is =
    false_from_ne_true (is_among key (now p j).session) (λ session.
    let same : key ≡ l = same_name_is key l is in
    let own : is_among l (now p j).session ≡ true = ap (λ x. is_among x (now p j).session) (sym same) ∙ session in
    let there : is_among l (slots p j) ≡ true = session_has_slot p j l own in
    let clashing : true ≡ false = rw (there, own) at clash in cc)

active_level : (p : Setting) (j : Journal) (c : Command) (r : Active) (key : List ℕ) → first_of (refusals p j c) ≡ None → changes p j c ≡ true → activated p c ≡ Some r →
    is_key key (key_named p c) ≡ true → is_among key (now p j).session ≡ false
active_level p j c r key accepted changing makes is =
    rule_level p j r.properties.key key (can_become p j r.properties (activation_accepted p j c r accepted changing makes)).level
    (ap (is_key key) (sym (makes_active p c r makes).key_is) ∙ is)

named_level : (p : Setting) (j : Journal) (c : Command) (key : List ℕ) → first_of (refusals p j c) ≡ None → changes p j c ≡ true → is_key key (key_named p c) ≡ true →
    is_among key (at_session_level c (now p j).session) ≡ names_session c
named_level p j (Monitor l amount Session) key accepted changing is =
    among_add key l (now p j).session ∙ (rw is (from (is_among key (now p j).session)))
  where
    from : (b : Bool) → (b || true) ≡ true
    from true = refl
    from false = refl
named_level p j (Monitor l amount Rule) key accepted changing is = rule_level p j (Some l) key (monitor_accepted p j l amount Rule accepted).0 is
named_level p j (Install rule) key accepted changing is = active_level p j (Install rule) _ key accepted changing refl is
named_level p j (Activate name) key accepted changing is =
    elim (rule_change p (Activate name)) [
      | inl makes ↦ active_level p j (Activate name) makes.0 key accepted changing makes.1 is
      | inr none ↦ from (offer_named p name) none is
    ]
  where
    from : (o : Option Offer) → option_map predefined o ≡ None → is_key key (key_offered o) ≡ true → is_among key (now p j).session ≡ false
    from None none is = absurd cc
    from (Some o) none is = absurd cc
named_level p j (Remove name) key accepted changing is = absurd cc
named_level p j (Stop l) key accepted changing is = absurd cc
named_level p j (ReportNow l) key accepted changing is = absurd cc
named_level p j (Triggers set) key accepted changing is = absurd cc
named_level p j (Notice kind value) key accepted changing is = absurd cc
named_level p j (LoseBearer id) key accepted changing is = absurd cc
named_level p j Close key accepted changing is = absurd cc
named_level p j Terminate key accepted changing is = absurd cc

-- ---- subscriptions
events_alike : (c : Command) (j k : Journal) → subscribed k ≡ subscribed j → subscribed (entry.Command c ∷ k) ≡ subscribed (entry.Command c ∷ j)
unfolding subscribed
events_alike (Triggers set) j k same = refl
events_alike (Install rule) j k same = same
events_alike (Activate name) j k same = same
events_alike (Remove name) j k same = same
events_alike (Monitor key amount level) j k same = same
events_alike (Stop key) j k same = same
events_alike (ReportNow key) j k same = same
events_alike (Notice kind value) j k same = same
events_alike (LoseBearer id) j k same = same
events_alike Close j k same = same
events_alike Terminate j k same = same

-- ---- what leaves tables, subscriptions and the end
pub settled : (p : Setting) (j j2 k k2 : Journal) → tables j2 ≡ tables j → subscribed j2 ≡ subscribed j → was_closed j2 ≡ was_closed j → tables k2 ≡ tables k → subscribed k2 ≡ subscribed k →
    was_closed k2 ≡ was_closed k → Alike p j k → Alike p j2 k2
settled p j j2 k k2 tables_j events_j closed_j tables_k events_k closed_k alike =
    let now_j : now p j2 ≡ now p j = ap (made_by p) tables_j in
    let now_k : now p k2 ≡ now p k = ap (made_by p) tables_k in
    let slots_j : slots p j2 ≡ slots p j = ap (slots_of p) tables_j in
    let slots_k : slots p k2 ≡ slots p k = ap (slots_of p) tables_k in
    record {
      rules = λ r. (
        λ there. subst (λ (g : Generation). Contains g.rules r) (sym now_k) ((alike.rules r).0 (subst (λ (g : Generation). Contains g.rules r) now_j there)),
        λ there. subst (λ (g : Generation). Contains g.rules r) (sym now_j) ((alike.rules r).1 (subst (λ (g : Generation). Contains g.rules r) now_k there)),
      );
      on = λ key. ap (λ (g : Generation). is_among key g.on) now_k ∙ alike.on key ∙ sym (ap (λ (g : Generation). is_among key g.on) now_j);
      events = events_k ∙ alike.events ∙ sym events_j;
      closed = closed_k ∙ alike.closed ∙ sym closed_j;
      slots_had = λ key there. ap (is_among key) slots_j ∙ alike.slots_had key (sym (ap (is_among key) slots_k) ∙ there);
      levels = λ key there.
          ap (λ (g : Generation). level_of g key) now_k ∙ alike.levels key (sym (ap (is_among key) slots_k) ∙ there) ∙ sym (ap (λ (g : Generation). level_of g key) now_j);
    }

-- ---- a command
module _ (p : Setting) (j k : Journal) (lawful_j : Lawful p j) (lawful_k : Lawful p k) (alike : Alike p j k) (number : ℕ → ℕ) (renumbers : Renumbers p j k number) (c : Command)
    (accepted_j : first_of (refusals p j c) ≡ None) (changing : changes p j c ≡ true) (accepted_k : first_of (refusals p k (image number c)) ≡ None) where
  abbrev d : Command
  d = image number c

  makes_same : activated p d ≡ activated p c
  makes_same = same_of (activated p) (λ n m. refl) number c

  stays_alike : (r : Active) → Contains (now p j).rules r → stays (now p k) d r ≡ stays (now p j) c r
  stays_alike r there =
      ap not (takes_alike number c r.properties.name ((now p j).id_of r.properties.qos) ((now p k).id_of r.properties.qos) (renumbers r.properties.qos (has_own p (now p j).rules r there)))

  rules_to : (r : Active) → Contains (rules_after p (now p j) c) r → Contains (rules_after p (now p k) d) r
  rules_to = moved p (now p j) (now p k) c d (made_once p (tables j)) (λ r. (alike.rules r).0) makes_same stays_alike

  rules_back : (r : Active) → Contains (rules_after p (now p k) d) r → Contains (rules_after p (now p j) c) r
  rules_back =
      moved p (now p k) (now p j) d c (made_once p (tables k)) (λ r. (alike.rules r).1) (sym makes_same) (λ r there. sym (stays_alike r ((alike.rules r).1 there)))

  pub keyed_before : (key : List ℕ) → has_key key (now p k).rules ≡ has_key key (now p j).rules
  keyed_before key = same_any (λ (r : Active). is_key key r.properties.key) (now p k).rules (now p j).rules (λ r. (alike.rules r).1) (λ r. (alike.rules r).0)

  pub keyed_after : (key : List ℕ) → has_key key (rules_after p (now p k) d) ≡ has_key key (rules_after p (now p j) c)
  keyed_after key = same_any (λ (r : Active). is_key key r.properties.key) (rules_after p (now p k) d) (rules_after p (now p j) c) rules_back rules_to

  abbrev j2 : Journal
  j2 = entry.Command c ∷ j

  abbrev k2 : Journal
  k2 = entry.Command d ∷ k

  on_alike : (key : List ℕ) → is_among key (now p k2).on ≡ is_among key (now p j2).on
  on_alike key =
      on_is p k d key
      ∙ ap₂ (λ a b. a && b) (ap (is_among key) (same_of (λ x. switched x (now p k).on) (λ n m. refl) number c) ∙ switched_alike c (now p k).on (now p j).on alike.on key)
      (ap₂ (λ a b. not a || b) (keyed_before key) (keyed_after key))
      ∙ sym (on_is p j c key)

  names_same : key_named p d ≡ key_named p c
  names_same = same_of (key_named p) (λ n m. refl) number c

  slots_alike : (key : List ℕ) → is_among key (slots p k2) ≡ true → is_among key (slots p j2) ≡ true
  slots_alike key there =
      among_slots p j c key
      ∙ from (is_among key (slots p k)) (is_among key (slots p j)) (is_key key (key_named p c)) (alike.slots_had key)
      (sym (among_slots p k d key ∙ ap (λ named. is_among key (slots p k) || is_key key named) names_same) ∙ there)
    where
      from : (a b n : Bool) → (a ≡ true → b ≡ true) → (a || n) ≡ true → (b || n) ≡ true
      from true b n had some = rw (had refl) refl
      from false true n had some = refl
      from false false n had some = some

  pub changing_k : changes p k d ≡ true
  changing_k = changes_alike c changing
    where
      changes_alike : (c : Command) → changes p j c ≡ true → changes p k (image number c) ≡ true
      changes_alike (Activate name) is = ap not (same_any (is_named name) (now p k).rules (now p j).rules (λ r. (alike.rules r).1) (λ r. (alike.rules r).0)) ∙ is
      changes_alike (Install rule) is = refl
      changes_alike (Remove name) is = refl
      changes_alike (Monitor key amount level) is = refl
      changes_alike (Stop key) is = refl
      changes_alike (ReportNow key) is = refl
      changes_alike (Triggers set) is = refl
      changes_alike (Notice kind value) is = refl
      changes_alike (LoseBearer id) is = refl
      changes_alike Close is = refl
      changes_alike Terminate is = refl

  levels_alike : (key : List ℕ) → is_among key (slots p k2) ≡ true → level_of (now p k2) key ≡ level_of (now p j2) key
  levels_alike key there =
      elim (cases_Bool (is_among key (slots p k))) [
        | inl had ↦ levels_stay p k d accepted_k key had ∙ alike.levels key had ∙ sym (levels_stay p j c accepted_j key (alike.slots_had key had))
        | inr new ↦
            let whole : (is_among key (slots p k) || is_key key (key_named p d)) ≡ true = sym (among_slots p k d key) ∙ there in
            let named : is_key key (key_named p d) ≡ true = rw new at whole in
            ap (λ (b : Bool). if b then Session else Rule)
            (ap (is_among key) (session_now p k d) ∙ named_level p k d key accepted_k changing_k named
            ∙ same_of names_session (λ n m. refl) number c
            ∙ sym (ap (is_among key) (session_now p j c) ∙ named_level p j c key accepted_j changing (ap (is_key key) (sym names_same) ∙ named)))
      ]

  pub entry_alike : Alike p j2 k2
  unfolding subscribed
  entry_alike = record {
    rules = λ r. (
      λ there. subst (λ (rs : List Active). Contains rs r) (sym (rules_now p k d)) (rules_to r (subst (λ (rs : List Active). Contains rs r) (rules_now p j c) there)),
      λ there. subst (λ (rs : List Active). Contains rs r) (sym (rules_now p j c)) (rules_back r (subst (λ (rs : List Active). Contains rs r) (rules_now p k d) there)),
    );
    on = on_alike;
    events = same_of (λ x. subscribed (entry.Command x ∷ k)) (λ n m. refl) number c ∙ events_alike c j k alike.events;
    closed = ap₂ (λ a b. a || b) (same_of (λ x. is_close (entry.Command x)) (λ n m. refl) number c) alike.closed;
    slots_had = slots_alike;
    levels = levels_alike;
  }

  pub command_alike : Alike p (after_command p j c) (after_command p k d)
  command_alike =
      settled p j2 (after_command p j c) k2 (after_command p k d) (tables_after p j c) (subscribed_after p j c) (closed_after p j c)
      (tables_after p k d) (subscribed_after p k d) (closed_after p k d) entry_alike

-- ---- rows and workers
pub rows_alike : (p : Setting) (j k : Journal) → Alike p j k → (rs ss : List Row) → Alike p (after_flush p j rs) (after_flush p k ss)
rows_alike p j k alike rs ss =
    settled p j (after_flush p j rs) k (after_flush p k ss) (tables_after_flush p j rs) (subscribed_flushed p j rs) (closed_flushed p j rs)
    (tables_after_flush p k ss) (subscribed_flushed p k ss) (closed_flushed p k ss) alike

pub workers_alike : (p : Setting) (j k : Journal) → Alike p j k → Alike p (after_attach j) (after_attach k) × ((v w : ℕ) → Alike p (after_leave v j) (after_leave w k))
unfolding subscribed
workers_alike p j k alike = (
  settled p j (after_attach j) k (after_attach k) refl refl refl refl refl refl alike,
  λ v w. settled p j (after_leave v j) k (after_leave w k) refl refl refl refl refl refl alike,
)

-- ---- a new session
has_slot_of : (keys : List (List ℕ)) (key : List ℕ) (named : Option (List ℕ)) → HasSlot keys named → is_key key named ≡ true → is_among key keys ≡ true
has_slot_of keys key None has is = absurd cc
has_slot_of keys key (Some l) has is = ap (λ k. is_among k keys) (same_name_is key l is) ∙ has

pub kept_has_slot : (p : Setting) (j : Journal) (key : List ℕ) → is_kept p j key ≡ true → is_among key (slots p j) ≡ true
kept_has_slot p j key kept =
    elim (or_cases (is_among key (now p j).on) (has_key key (now p j).rules) kept) [
      | inl on ↦ on_has_slot p (tables j) key on
      | inr has ↦
          let w = some_there (λ (r : Active). is_key key r.properties.key) (now p j).rules has in
          has_slot_of (slots p j) key w.0.properties.key (rules_have_slots p (tables j) w.0 w.1) w.2
    ]

pub like_is_alike : (p : Setting) (j k : Journal) → Like p j k → Alike p j k
like_is_alike p j k like = record {
  rules = like.rules;
  on = like.on;
  events = like.events;
  closed = like.closed;
  slots_had = λ key there. kept_has_slot p j key (sym (like.slots_kept key) ∙ there);
  levels = λ key there. like.levels key (sym (like.slots_kept key) ∙ there);
}
