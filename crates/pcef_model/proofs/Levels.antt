-- Levels of keys: they stay, and no active rule has a key of session level.
use Rattle.std.proofs.Common.{◌≡◌, ◌∙◌, ◌||◌, ◌&&◌, not, ℕ, Bool, true, false, List, [], ◌∷◌, ◌++◌, Some, None, Contains, filter, refl, sym, ap, subst, inl, inr}
use Rattle.std.specs.Prelude.{Option, if◌then◌else◌}
use Rattle.std.proofs.lemmas.Bool.{cases_Bool}
use Rattle.pcef_base.proofs.Tests.{contrary}
use Rattle.pcef_model.specs.declared.command.Command.{Command}
use Rattle.pcef_model.specs.declared.command.Command.TheVariants.{Install, Activate, Remove, Monitor, Stop, ReportNow, Triggers, Notice, LoseBearer, Close, Terminate}
use Rattle.pcef_model.specs.declared.level.Level.TheVariants.{Rule, Session}
use Rattle.pcef_model.specs.declared.entry.Entry.TheVariants as entry
use Rattle.pcef_model.specs.Setting.{Setting, same_level, same_name}
use Rattle.pcef_model.specs.ActiveRules.{Active, has_key, is_key, is_named, put}
use Rattle.pcef_model.specs.Generations.{Generation, add_if_some, made_by, rules_after, slots_of}
use Rattle.pcef_model.specs.Commands.{add_key, at_session_level, is_among, is_table, key_named}
use Rattle.pcef_model.specs.Entries.{Journal}
use Rattle.pcef_model.specs.Journals.{level_of, now, slots, tables}
use Rattle.pcef_model.specs.Lawful.{Lawful, at_first, by_attach, by_command, by_flush, by_leave}
use Rattle.pcef_model.specs.Outcomes.{changes}
use Rattle.pcef_model.specs.Refusals.{clashes, first_of, refusals}
use Rattle.pcef_model.specs.Reports.{after_command, after_flush}
use Rattle.pcef_model.proofs.Acceptance.{activation_accepted, can_become, monitor_accepted}
use Rattle.pcef_model.proofs.AfterEvents.{now_after}
use Rattle.pcef_model.proofs.Growth.{now_after_table}
use Rattle.pcef_model.proofs.JournalExtends.{tables_after_flush}
use Rattle.pcef_model.proofs.Members.{first_there, later_there}
use Rattle.pcef_model.proofs.RulesAfter.{filter_all, rule_change, rules_left, rules_put}
use Rattle.pcef_model.proofs.RulesNow.{now_after_other, rules_now}
use Rattle.pcef_model.proofs.Sameness.{same_name_is}
use Rattle.pcef_model.proofs.SlotsGrow.{HasSlot, rules_have_slots}

pub no_or : (a b : Bool) → (a || b) ≡ false → (a ≡ false) × (b ≡ false)
no_or true b none = absurd cc
no_or false b none = (refl, none)

or_none : (a : Bool) → (a || false) ≡ a
or_none true = refl
or_none false = refl

or_twice : (a b c : Bool) → (a || (b || c)) ≡ ((a || b) || c)
or_twice true b c = refl
or_twice false b c = refl

-- ---- keys that are added
among_last : (k l : List ℕ) (keys : List (List ℕ)) → is_among k (keys ++ l ∷ []) ≡ (is_among k keys || same_name k l)
among_last k l [] = or_none (same_name k l)
among_last k l (m ∷ keys) = ap (λ b. same_name k m || b) (among_last k l keys) ∙ or_twice (same_name k m) (is_among k keys) (same_name k l)

among_known : (k l : List ℕ) (keys : List (List ℕ)) → is_among l keys ≡ true → is_among k keys ≡ (is_among k keys || same_name k l)
among_known k l keys known =
    elim (cases_Bool (same_name k l)) [
      | inl same ↦ let is : is_among k keys ≡ true = ap (λ x. is_among x keys) (same_name_is k l same) ∙ known in is ∙ sym (ap (λ b. b || same_name k l) is)
      | inr differs ↦ sym (ap (λ b. is_among k keys || b) differs ∙ or_none (is_among k keys))
    ]

pub among_add : (k l : List ℕ) (keys : List (List ℕ)) → is_among k (add_key l keys) ≡ (is_among k keys || same_name k l)
among_add k l keys =
    elim (cases_Bool (is_among l keys)) [ inl known ↦ rw known (among_known k l keys known) | inr unknown ↦ rw unknown (among_last k l keys) ]

pub absent_before : (k : List ℕ) (named : Option (List ℕ)) (keys : List (List ℕ)) → is_among k (add_if_some named keys) ≡ false → is_among k keys ≡ false
absent_before k None keys absent = absent
absent_before k (Some l) keys absent = (no_or (is_among k keys) (same_name k l) (sym (among_add k l keys) ∙ absent)).0

-- ---- a key without a slot isn't of session level
unnamed : (p : Setting) (c : Command) (keys session : List (List ℕ)) (k : List ℕ) →
    is_among k (add_if_some (key_named p c) keys) ≡ false → is_among k session ≡ false → is_among k (at_session_level c session) ≡ false
unnamed p (Monitor l amount Session) keys session k absent off =
    among_add k l session ∙ (let parts = no_or (is_among k keys) (same_name k l) (sym (among_add k l keys) ∙ absent) in rw (off, parts.1) refl)
unnamed p (Monitor l amount Rule) keys session k absent off = off
unnamed p (Install rule) keys session k absent off = off
unnamed p (Activate name) keys session k absent off = off
unnamed p (Remove name) keys session k absent off = off
unnamed p (Stop l) keys session k absent off = off
unnamed p (ReportNow l) keys session k absent off = off
unnamed p (Triggers set) keys session k absent off = off
unnamed p (Notice kind value) keys session k absent off = off
unnamed p (LoseBearer id) keys session k absent off = off
unnamed p Close keys session k absent off = off
unnamed p Terminate keys session k absent off = off

pub stranger_level : (p : Setting) (cs : List Command) (k : List ℕ) → is_among k (slots_of p cs) ≡ false → is_among k (made_by p cs).session ≡ false
unfolding made_by slots_of
stranger_level p [] k absent = refl
stranger_level p (c ∷ cs) k absent =
    unnamed p c (slots_of p cs) (made_by p cs).session k absent (stranger_level p cs k (absent_before k (key_named p c) (slots_of p cs) absent))

pub session_has_slot : (p : Setting) (j : Journal) (k : List ℕ) → is_among k (now p j).session ≡ true → is_among k (slots p j) ≡ true
session_has_slot p j k is =
    elim (cases_Bool (is_among k (slots p j))) [
      | inl there ↦ there
      | inr absent ↦ contrary (is_among k (now p j).session) is (stranger_level p (tables j) k absent)
    ]

-- ---- levels stay
-- where a key has a slot and doesn't clash at session level, it is of session level
of_session : (p : Setting) (j : Journal) (k : List ℕ) → clashes p j Session (Some k) ≡ false → is_among k (slots p j) ≡ true → is_among k (now p j).session ≡ true
of_session p j k clash there = from (is_among k (now p j).session) refl (rw there at clash)
  where
    from : (b : Bool) → is_among k (now p j).session ≡ b → not (same_level Session (if is_among k (now p j).session then Session else Rule)) ≡ false → is_among k (now p j).session ≡ true
    from true is none = is
    from false is none = absurd (let clashing : not (same_level Session Rule) ≡ false = rw is at none in cc)

known_add : (l : List ℕ) (keys : List (List ℕ)) → is_among l keys ≡ true → add_key l keys ≡ keys
known_add l keys there = rw there refl

level_kept : (p : Setting) (j : Journal) (c : Command) → first_of (refusals p j c) ≡ None → (key : List ℕ) → is_among key (slots p j) ≡ true →
    is_among key (at_session_level c (now p j).session) ≡ is_among key (now p j).session
level_kept p j (Monitor l amount Session) accepted key there =
    let clash = (monitor_accepted p j l amount Session accepted).0 in
    elim (cases_Bool (same_name key l)) [
      | inl same ↦
          let l_there : is_among l (slots p j) ≡ true = ap (λ k. is_among k (slots p j)) (sym (same_name_is key l same)) ∙ there in
          ap (is_among key) (known_add l (now p j).session (of_session p j l clash l_there))
      | inr differs ↦ among_add key l (now p j).session ∙ ap (λ b. is_among key (now p j).session || b) differs ∙ or_none (is_among key (now p j).session)
    ]
level_kept p j (Monitor l amount Rule) accepted key there = refl
level_kept p j (Install rule) accepted key there = refl
level_kept p j (Activate name) accepted key there = refl
level_kept p j (Remove name) accepted key there = refl
level_kept p j (Stop l) accepted key there = refl
level_kept p j (ReportNow l) accepted key there = refl
level_kept p j (Triggers set) accepted key there = refl
level_kept p j (Notice kind value) accepted key there = refl
level_kept p j (LoseBearer id) accepted key there = refl
level_kept p j Close accepted key there = refl
level_kept p j Terminate accepted key there = refl

-- the keys of session level after a command, whether or not it makes a generation
other_level : (c : Command) (keys : List (List ℕ)) → is_table c ≡ false → at_session_level c keys ≡ keys
other_level (ReportNow l) keys isnt = refl
other_level (Triggers set) keys isnt = refl
other_level (Notice kind value) keys isnt = refl
other_level (Monitor l amount level) keys isnt = absurd cc
other_level (Install rule) keys isnt = absurd cc
other_level (Activate name) keys isnt = absurd cc
other_level (Remove name) keys isnt = absurd cc
other_level (Stop l) keys isnt = absurd cc
other_level (LoseBearer id) keys isnt = absurd cc
other_level Close keys isnt = absurd cc
other_level Terminate keys isnt = absurd cc

pub session_now : (p : Setting) (j : Journal) (c : Command) → (now p (entry.Command c ∷ j)).session ≡ at_session_level c (now p j).session
session_now p j c =
    elim (cases_Bool (is_table c)) [
      | inl is ↦ ap (λ (g : Generation). g.session) (now_after_table p j c is)
      | inr isnt ↦ ap (λ (g : Generation). g.session) (now_after_other p j c isnt) ∙ sym (other_level c (now p j).session isnt)
    ]

pub levels_stay : (p : Setting) (j : Journal) (c : Command) → first_of (refusals p j c) ≡ None → (key : List ℕ) → is_among key (slots p j) ≡ true →
    level_of (now p (entry.Command c ∷ j)) key ≡ level_of (now p j) key
levels_stay p j c accepted key there =
    ap (λ (b : Bool). if b then Session else Rule) (ap (is_among key) (session_now p j c) ∙ level_kept p j c accepted key there)

-- ---- no active rule has a key of session level
put_without : (key : List ℕ) (new : Active) (rules : List Active) → is_key key new.properties.key ≡ false → has_key key rules ≡ false → has_key key (put new rules) ≡ false
put_without key new [] isnt none = rw isnt refl
put_without key new (r ∷ rules) isnt none =
    let parts = no_or (is_key key r.properties.key) (has_key key rules) none in
    elim (cases_Bool (is_named new.properties.name r)) [
      | inl named ↦ rw (named, isnt) parts.1
      | inr other ↦ rw (other, parts.0) (put_without key new rules isnt parts.1)
    ]

filter_without : (key : List ℕ) (test : Active → Bool) (rules : List Active) → has_key key rules ≡ false → has_key key (filter test rules) ≡ false
filter_without key test [] none = refl
filter_without key test (r ∷ rules) none =
    let parts = no_or (is_key key r.properties.key) (has_key key rules) none in
    elim (cases_Bool (test r)) [
      | inl passes ↦ rw (passes, parts.0) (filter_without key test rules parts.1)
      | inr fails ↦ rw fails (filter_without key test rules parts.1)
    ]

keyed : (key : List ℕ) (rules : List Active) → has_key key rules ≡ true → (r : Active) × Contains rules r × (is_key key r.properties.key ≡ true)
keyed key [] some = absurd cc
keyed key (r ∷ rules) some =
    elim (cases_Bool (is_key key r.properties.key)) [
      | inl is ↦ (r, first_there r rules, is)
      | inr isnt ↦ let rest : has_key key rules ≡ true = rw isnt at some in let w = keyed key rules rest in (w.0, later_there r rules w.0 w.1, w.2)
    ]

-- a key of an active rule has a slot
rule_slot : (keys : List (List ℕ)) (key : List ℕ) (of : Option (List ℕ)) → HasSlot keys of → is_key key of ≡ true → is_among key keys ≡ true
rule_slot keys key None has is = absurd cc
rule_slot keys key (Some other) has is = ap (λ k. is_among k keys) (same_name_is key other is) ∙ has

-- a rule that becomes active has another key than one of session level
other_key : (p : Setting) (j : Journal) (key : List ℕ) (of : Option (List ℕ)) → clashes p j Rule of ≡ false → is_among key (now p j).session ≡ true → is_key key of ≡ false
other_key p j key None clash session = refl
other_key p j key (Some other) clash session =
    elim (cases_Bool (same_name key other)) [
      | inr differs ↦ differs
      | inl same ↦ absurd (
          let is : is_among other (now p j).session ≡ true = ap (λ k. is_among k (now p j).session) (sym (same_name_is key other same)) ∙ session in
          let there : is_among other (slots p j) ≡ true = session_has_slot p j other is in
          let clashing : true ≡ false = rw (there, is) at clash in cc)
    ]

rules_without : (p : Setting) (j : Journal) (c : Command) (key : List ℕ) → first_of (refusals p j c) ≡ None → changes p j c ≡ true → is_among key (now p j).session ≡ true →
    has_key key (now p j).rules ≡ false → has_key key (rules_after p (now p j) c) ≡ false
rules_without p j c key accepted changing session none =
    elim (rule_change p c) [
      | inl makes ↦
          let clash = (can_become p j makes.0.properties (activation_accepted p j c makes.0 accepted changing makes.1)).level in
          ap (has_key key) (rules_put p (now p j) c makes.0 makes.1)
          ∙ put_without key makes.0 (now p j).rules (other_key p j key makes.0.properties.key clash session) none
      | inr left ↦ ap (has_key key) (rules_left p (now p j) c left) ∙ filter_without key _ (now p j).rules none
    ]

-- a key that a Monitor brings at session level has no rule
pub new_without : (p : Setting) (j : Journal) (l : List ℕ) (amount : ℕ) → first_of (refusals p j (Monitor l amount Session)) ≡ None → is_among l (now p j).session ≡ false →
    has_key l (now p j).rules ≡ false
new_without p j l amount accepted fresh =
    elim (cases_Bool (has_key l (now p j).rules)) [
      | inr none ↦ none
      | inl some ↦
          let w = keyed l (now p j).rules some in
          let there = rule_slot (slots p j) l w.0.properties.key (rules_have_slots p (tables j) w.0 w.1) w.2 in
          contrary (is_among l (now p j).session) (of_session p j l (monitor_accepted p j l amount Session accepted).0 there) fresh
    ]

monitored : (p : Setting) (j : Journal) (c : Command) (key : List ℕ) → first_of (refusals p j c) ≡ None → is_among key (now p j).session ≡ false →
    is_among key (at_session_level c (now p j).session) ≡ true → has_key key (rules_after p (now p j) c) ≡ false
monitored p j (Monitor l amount Session) key accepted fresh is =
    let same : same_name key l ≡ true = ap (λ b. b || same_name key l) (sym fresh) ∙ sym (among_add key l (now p j).session) ∙ is in
    let key_is : key ≡ l = same_name_is key l same in
    ap (has_key key) (filter_all (now p j).rules) ∙ ap (λ k. has_key k (now p j).rules) key_is
    ∙ new_without p j l amount accepted (ap (λ k. is_among k (now p j).session) (sym key_is) ∙ fresh)
monitored p j (Monitor l amount Rule) key accepted fresh is = contrary (is_among key (now p j).session) is fresh
monitored p j (Install rule) key accepted fresh is = contrary (is_among key (now p j).session) is fresh
monitored p j (Activate name) key accepted fresh is = contrary (is_among key (now p j).session) is fresh
monitored p j (Remove name) key accepted fresh is = contrary (is_among key (now p j).session) is fresh
monitored p j (Stop l) key accepted fresh is = contrary (is_among key (now p j).session) is fresh
monitored p j (ReportNow l) key accepted fresh is = contrary (is_among key (now p j).session) is fresh
monitored p j (Triggers set) key accepted fresh is = contrary (is_among key (now p j).session) is fresh
monitored p j (Notice kind value) key accepted fresh is = contrary (is_among key (now p j).session) is fresh
monitored p j (LoseBearer id) key accepted fresh is = contrary (is_among key (now p j).session) is fresh
monitored p j Close key accepted fresh is = contrary (is_among key (now p j).session) is fresh
monitored p j Terminate key accepted fresh is = contrary (is_among key (now p j).session) is fresh

abbrev NoRules : Generation → Type 0
NoRules g = (key : List ℕ) → is_among key g.session ≡ true → has_key key g.rules ≡ false

no_rules_after : (p : Setting) (j : Journal) (c : Command) → first_of (refusals p j c) ≡ None → changes p j c ≡ true → NoRules (now p j) → NoRules (now p (entry.Command c ∷ j))
no_rules_after p j c accepted changing none key is =
    let after : is_among key (at_session_level c (now p j).session) ≡ true = ap (is_among key) (sym (session_now p j c)) ∙ is in
    ap (has_key key) (rules_now p j c)
    ∙ elim (cases_Bool (is_among key (now p j).session)) [
      | inl before ↦ rules_without p j c key accepted changing before (none key before)
      | inr fresh ↦ monitored p j c key accepted fresh after
    ]

no_rules : (p : Setting) (j : Journal) → Lawful p j → NoRules (now p j)
unfolding made_by
no_rules p _ at_first = λ key is. absurd cc
no_rules p _ (by_command j c l accepted changing) = subst NoRules (sym (now_after p j c)) (no_rules_after p j c accepted changing (no_rules p j l))
no_rules p _ (by_attach j l accepted) = no_rules p j l
no_rules p _ (by_leave j worker l there) = no_rules p j l
no_rules p _ (by_flush j worker rs l accepted follows) = subst NoRules (sym (ap (made_by p) (tables_after_flush p j rs))) (no_rules p j l)

is_session : (b : Bool) → (if b then Session else Rule) ≡ Session → b ≡ true
is_session true is = refl
is_session false is = absurd cc

pub session_keys_have_no_rule : (p : Setting) (j : Journal) → Lawful p j → (key : List ℕ) → level_of (now p j) key ≡ Session → has_key key (now p j).rules ≡ false
session_keys_have_no_rule p j lawful key is = no_rules p j lawful key (is_session (is_among key (now p j).session) is)
