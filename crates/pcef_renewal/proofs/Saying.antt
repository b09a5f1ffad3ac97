-- What a new session's journal says while a renewal is played.
use Rattle.std.proofs.Common.{◌≡◌, ◌∙◌, ◌&&◌, ◌||◌, ℕ, Bool, true, false, not, List, [], ◌∷◌, ◌++◌, Contains, Some, None, filter, map, refl, sym, ap, subst, inl, inr}
use Rattle.std.specs.Prelude.{Option, if◌then◌else◌}
use Rattle.std.specs.List.{list_any}
use Rattle.std.proofs.lemmas.Bool.{cases_Bool}
use Rattle.std.proofs.lemmas.List.{append-nil, append_assoc}
use Rattle.pcef_model.specs.declared.command.Command.{Command}
use Rattle.pcef_model.specs.declared.command.Command.TheVariants.{Close, Monitor, Triggers}
use Rattle.pcef_model.specs.declared.entry.Entry.TheVariants as entry
use Rattle.pcef_model.specs.declared.level.Level.{Level}
use Rattle.pcef_model.specs.declared.level.Level.TheVariants.{Rule, Session}
use Rattle.pcef_model.specs.declared.trigger.TriggerSet.{TriggerSet}
use Rattle.pcef_model.specs.ActiveRules.{Active, has_key, is_key, is_named}
use Rattle.pcef_model.specs.Commands.{activated, add_key, at_session_level, is_among, switched}
use Rattle.pcef_model.specs.Entries.{Journal}
use Rattle.pcef_model.specs.Generations.{Generation, add_if_some, made_by, rules_after, slots_of, still_on}
use Rattle.pcef_model.specs.Journals.{grant, level_of, no_triggers, now, slots, subscribed, unreported}
use Rattle.pcef_model.specs.Refusals.{was_closed}
use Rattle.pcef_model.specs.Setting.{Setting, same_name}
use Rattle.pcef_model.proofs.Growth.{now_after_table}
use Rattle.pcef_model.proofs.Levels.{among_add, session_now}
use Rattle.pcef_model.proofs.RulesAfter.{filter_all, makes_active, rules_put}
use Rattle.pcef_model.proofs.RulesNow.{rules_now}
use Rattle.pcef_model.proofs.Sameness.{same_name_is}
use Rattle.pcef_renewal.specs.Accepting.{entered}
use Rattle.pcef_renewal.specs.Renewal.{grant_after, monitor_again, rule_again}
use Rattle.pcef_model.proofs.BoundRules.{NamesOnce}
use Rattle.pcef_model.proofs.Members.{first_there, later_there}
use Rattle.pcef_renewal.proofs.Fitting.{KeysOnce, once_next}
use Rattle.pcef_renewal.proofs.Returning.{makes_plain, put_last}
use Rattle.pcef_renewal.proofs.Switching.{absent_next}

-- what it says, as far as j, the journal of the old session, says it again
pub record Says (p : Setting) (j k : Journal) (on : List (List ℕ)) (rules : List Active) (events : TriggerSet) (closed : Bool) : Type 0 where
  pub on_are : (now p k).on ≡ on
  pub rules_are : (now p k).rules ≡ rules
  pub slots_are : (key : List ℕ) → is_among key (slots p k) ≡ (is_among key on || has_key key rules)
  pub session_is : (key : List ℕ) → is_among key (now p k).session ≡ (is_among key on && is_among key (now p j).session)
  pub grants : (key : List ℕ) → is_among key on ≡ true → grant k key ≡ Some (grant_after (grant j key) (unreported p j key))
  pub events_are : subscribed k ≡ events
  pub closed_is : was_closed k ≡ closed

pub says_nothing : (p : Setting) (j : Journal) → Says p j [] [] [] no_triggers false
unfolding made_by slots_of subscribed
says_nothing p j = record {
  on_are = refl;
  rules_are = refl;
  slots_are = λ key. refl;
  session_is = λ key. refl;
  grants = λ key there. absurd cc;
  events_are = refl;
  closed_is = refl;
}

-- ---- keys stay on that keep their rules
filter_true : (test : List ℕ → Bool) (keys : List (List ℕ)) → ((key : List ℕ) → test key ≡ true) → filter test keys ≡ keys
filter_true test [] all = refl
filter_true test (k ∷ keys) all = rw (all k) (ap (λ ks. k ∷ ks) (filter_true test keys all))

on_stay : (old new : List Active) (on : List (List ℕ)) → ((key : List ℕ) → has_key key old ≡ true → has_key key new ≡ true) → still_on old new on ≡ on
on_stay old new on keeps =
    filter_true (λ key. not (has_key key old) || has_key key new) on (λ key. from (has_key key old) (has_key key new) (keeps key))
  where
    from : (a b : Bool) → (a ≡ true → b ≡ true) → (not a || b) ≡ true
    from true b keep = keep refl
    from false b keep = refl

-- the keys that are on after a table command that keeps the rules of each key
on_now : (p : Setting) (k : Journal) (c : Command) → (now p (entry.Command c ∷ k)).on ≡ still_on (now p k).rules (rules_after p (now p k) c) (switched c (now p k).on) →
    ((key : List ℕ) → has_key key (now p k).rules ≡ true → has_key key (rules_after p (now p k) c) ≡ true) → (now p (entry.Command c ∷ k)).on ≡ switched c (now p k).on
on_now p k c is keeps = is ∙ on_stay (now p k).rules (rules_after p (now p k) c) (switched c (now p k).on) keeps

-- ---- a key
add_new : (key : List ℕ) (keys : List (List ℕ)) → is_among key keys ≡ false → add_key key keys ≡ keys ++ key ∷ []
add_new key keys new = rw new refl

among_push : (key l : List ℕ) (keys : List (List ℕ)) → is_among key (keys ++ l ∷ []) ≡ (is_among key keys || same_name key l)
among_push key l [] = from (same_name key l)
  where
    from : (b : Bool) → (b || false) ≡ b
    from true = refl
    from false = refl
among_push key l (m ∷ keys) = ap (λ b. same_name key m || b) (among_push key l keys) ∙ from (same_name key m) (is_among key keys) (same_name key l)
  where
    from : (a b d : Bool) → (a || (b || d)) ≡ ((a || b) || d)
    from true b d = refl
    from false b d = refl

level_is : (b : Bool) → (if b then Session else Rule) ≡ Session → b ≡ true
level_is true is = refl
level_is false is = absurd cc

level_isnt : (b : Bool) → (if b then Session else Rule) ≡ Rule → b ≡ false
level_isnt true is = absurd cc
level_isnt false is = refl

session_after : (on session old : List (List ℕ)) (l : List ℕ) (amount : ℕ) (level : Level) → (if is_among l old then Session else Rule) ≡ level →
    ((key : List ℕ) → is_among key session ≡ (is_among key on && is_among key old)) →
    (key : List ℕ) → is_among key (at_session_level (Monitor l amount level) session) ≡ (is_among key (on ++ l ∷ []) && is_among key old)
session_after on session old l amount Session level was key =
    among_add key l session
    ∙ elim (cases_Bool (same_name key l)) [
      | inl same ↦
          let there : is_among key old ≡ true = ap (λ x. is_among x old) (same_name_is key l same) ∙ level_is (is_among l old) level in
          rw (among_push key l on, same, there) (from (is_among key session) (is_among key on))
      | inr differs ↦ rw (among_push key l on, differs, was key) (or_false (is_among key on) (is_among key old))
    ]
  where
    from : (a b : Bool) → (a || true) ≡ ((b || true) && true)
    from true true = refl
    from true false = refl
    from false true = refl
    from false false = refl

    or_false : (a b : Bool) → ((a && b) || false) ≡ ((a || false) && b)
    or_false true true = refl
    or_false true false = refl
    or_false false b = refl
session_after on session old l amount Rule level was key =
    was key
    ∙ elim (cases_Bool (same_name key l)) [
      | inl same ↦
          let absent : is_among key old ≡ false = ap (λ x. is_among x old) (same_name_is key l same) ∙ level_isnt (is_among l old) level in
          rw (among_push key l on, same, absent) (from (is_among key on))
      | inr differs ↦ rw (among_push key l on, differs) (or_false (is_among key on) (is_among key old))
    ]
  where
    from : (a : Bool) → (a && false) ≡ ((a || true) && false)
    from true = refl
    from false = refl

    or_false : (a b : Bool) → (a && b) ≡ ((a || false) && b)
    or_false true b = refl
    or_false false b = refl

pub says_monitor : (p : Setting) (j k : Journal) (on : List (List ℕ)) (events : TriggerSet) (closed : Bool) (l : List ℕ) → Says p j k on [] events closed → is_among l on ≡ false →
    Says p j (entry.Command (monitor_again p j l) ∷ k) (on ++ l ∷ []) [] events closed
unfolding grant slots_of subscribed
says_monitor p j k on events closed l says new =
    let amount : ℕ = grant_after (grant j l) (unreported p j l) in
    let level : Level = level_of (now p j) l in
    let c : Command = monitor_again p j l in
    let no_rules = says.rules_are in
    let rules_after_is : (now p (entry.Command c ∷ k)).rules ≡ [] = rules_now p k c ∙ filter_all (now p k).rules ∙ no_rules in
    record {
      on_are =
          on_now p k c (ap (λ (g : Generation). g.on) (now_after_table p k c refl)) (λ key had. ap (has_key key) (filter_all (now p k).rules) ∙ had)
          ∙ ap (add_key l) says.on_are ∙ add_new l on new;
      rules_are = rules_after_is;
      slots_are = λ key.
          among_add key l (slots p k) ∙ (let was = says.slots_are key in rw (was, among_push key l on) (from (is_among key on) (same_name key l)));
      session_is = λ key. ap (is_among key) (session_now p k c) ∙ session_after on (now p k).session (now p j).session l amount level refl says.session_is key;
      grants = λ key there. grant_now key (says.grants key) (sym (among_push key l on) ∙ there);
      events_are = says.events_are;
      closed_is = says.closed_is;
    }
  where
    from : (a b : Bool) → ((a || false) || b) ≡ ((a || b) || false)
    from true b = refl
    from false true = refl
    from false false = refl

    grant_now : (key : List ℕ) → (is_among key on ≡ true → grant k key ≡ Some (grant_after (grant j key) (unreported p j key))) → (is_among key on || same_name key l) ≡ true →
        (if same_name key l then Some (grant_after (grant j l) (unreported p j l)) else grant k key) ≡ Some (grant_after (grant j key) (unreported p j key))
    grant_now key was there =
        elim (cases_Bool (same_name key l)) [
          | inl same ↦ rw same (ap (λ x. Some (grant_after (grant j x) (unreported p j x))) (sym (same_name_is key l same)))
          | inr differs ↦ rw differs (was (drop_false (is_among key on) (rw differs at there)))
        ]
      where
        drop_false : (a : Bool) → (a || false) ≡ true → a ≡ true
        drop_false true is = refl
        drop_false false is = is

-- ---- subscriptions
pub says_triggers : (p : Setting) (j k : Journal) (on : List (List ℕ)) (rules : List Active) (events : TriggerSet) (closed : Bool) (set : TriggerSet) → Says p j k on rules events closed →
    Says p j (entry.Command (Triggers set) ∷ k) on rules set closed
unfolding grant slots_of subscribed
says_triggers p j k on rules events closed set says = record {
  on_are = says.on_are;
  rules_are = says.rules_are;
  slots_are = says.slots_are;
  session_is = says.session_is;
  grants = says.grants;
  events_are = refl;
  closed_is = says.closed_is;
}

-- ---- rules
any_push : {X : Type 0} (t : X → Bool) (xs : List X) (x : X) → list_any t (xs ++ x ∷ []) ≡ (list_any t xs || t x)
any_push t [] x = from (t x)
  where
    from : (b : Bool) → (b || false) ≡ b
    from true = refl
    from false = refl
any_push t (y ∷ xs) x = ap (λ b. t y || b) (any_push t xs x) ∙ from (t y) (list_any t xs) (t x)
  where
    from : (a b d : Bool) → (a || (b || d)) ≡ ((a || b) || d)
    from true b d = refl
    from false b d = refl

pub among_named : (key : List ℕ) (named : Option (List ℕ)) (keys : List (List ℕ)) → is_among key (add_if_some named keys) ≡ (is_among key keys || is_key key named)
among_named key None keys = from (is_among key keys)
  where
    from : (b : Bool) → b ≡ (b || false)
    from true = refl
    from false = refl
among_named key (Some l) keys = among_add key l keys

pub says_rule : (p : Setting) (j k : Journal) (on : List (List ℕ)) (rules : List Active) (events : TriggerSet) (closed : Bool) (r : Active) → Says p j k on rules events closed →
    activated p (rule_again r) ≡ Some r → list_any (is_named r.properties.name) rules ≡ false → Says p j (entry.Command (rule_again r) ∷ k) on (rules ++ r ∷ []) events closed
says_rule p j k on rules events closed r says returns new =
    let c : Command = rule_again r in
    let plain = makes_plain p k c r returns in
    let makes = makes_active p c r returns in
    let new_now : list_any (is_named r.properties.name) (now p k).rules ≡ false = ap (list_any (is_named r.properties.name)) says.rules_are ∙ new in
    let after : rules_after p (now p k) c ≡ (now p k).rules ++ r ∷ [] = rules_put p (now p k) c r returns ∙ put_last r (now p k).rules new_now in
    record {
      on_are =
          on_now p k c (ap (λ (g : Generation). g.on) (now_after_table p k c makes.is_table))
          (λ key had. ap (has_key key) after ∙ any_push (λ (s : Active). is_key key s.properties.key) (now p k).rules r ∙ keep (has_key key (now p k).rules) (is_key key r.properties.key) had)
          ∙ makes.on_is (now p k).on ∙ says.on_are;
      rules_are = rules_now p k c ∙ after ∙ ap (λ rs. rs ++ r ∷ []) says.rules_are;
      slots_are = λ key.
          ap (is_among key) (plain.slots_are ∙ ap (λ l. add_if_some l (slots p k)) makes.key_is)
          ∙ among_named key r.properties.key (slots p k)
          ∙ (let was = says.slots_are key in rw (was, any_push (λ (s : Active). is_key key s.properties.key) rules r) (from (is_among key on) (has_key key rules) (is_key key r.properties.key)));
      session_is = λ key. ap (is_among key) (session_now p k c ∙ plain.session (now p k).session) ∙ says.session_is key;
      grants = λ key there. plain.grants key ∙ says.grants key there;
      events_are = plain.events ∙ says.events_are;
      closed_is = plain.open_yet ∙ says.closed_is;
    }
  where
    from : (a b d : Bool) → ((a || b) || d) ≡ (a || (b || d))
    from true b d = refl
    from false b d = refl

    keep : (a b : Bool) → a ≡ true → (a || b) ≡ true
    keep a b is = rw is refl

-- ---- the end
pub says_close : (p : Setting) (j k : Journal) (on : List (List ℕ)) (events : TriggerSet) (closed : Bool) → Says p j k on [] events closed → Says p j (entry.Command Close ∷ k) on [] events true
unfolding grant slots_of subscribed
says_close p j k on events closed says =
    let none : rules_after p (now p k) Close ≡ [] = none_stay (now p k).rules in
    record {
      on_are =
          on_now p k Close (ap (λ (g : Generation). g.on) (now_after_table p k Close refl))
          (λ key had. let no : false ≡ true = sym (ap (has_key key) says.rules_are) ∙ had in absurd cc)
          ∙ says.on_are;
      rules_are = rules_now p k Close ∙ none;
      slots_are = says.slots_are;
      session_is = λ key. ap (is_among key) (session_now p k Close) ∙ says.session_is key;
      grants = says.grants;
      events_are = says.events_are;
      closed_is = refl;
    }
  where
    none_stay : (rules : List Active) → filter (λ r. false) rules ≡ []
    none_stay [] = refl
    none_stay (r ∷ rules) = none_stay rules

-- ---- lists
pub says_monitors : (p : Setting) (j : Journal) (rest on : List (List ℕ)) (k : Journal) (events : TriggerSet) (closed : Bool) → Says p j k on [] events closed → KeysOnce (on ++ rest) →
    Says p j (entered (map (monitor_again p j) rest) k) (on ++ rest) [] events closed
says_monitors p j [] on k events closed says once = subst (λ keys. Says p j k keys [] events closed) (sym (append-nil on)) says
says_monitors p j (l ∷ rest) on k events closed says once =
    let whole : (on ++ l ∷ []) ++ rest ≡ on ++ l ∷ rest = append_assoc on (l ∷ []) rest in
    subst (λ keys. Says p j (entered (map (monitor_again p j) (l ∷ rest)) k) keys [] events closed) whole
    (says_monitors p j rest (on ++ l ∷ []) (entry.Command (monitor_again p j l) ∷ k) events closed (says_monitor p j k on events closed l says (absent_next l on rest once))
    (subst KeysOnce (sym whole) once))

pub says_rules : (p : Setting) (j : Journal) (on : List (List ℕ)) (rest rules : List Active) (k : Journal) (events : TriggerSet) (closed : Bool) → Says p j k on rules events closed →
    NamesOnce (rules ++ rest) → ((r : Active) → Contains rest r → activated p (rule_again r) ≡ Some r) → Says p j (entered (map rule_again rest) k) on (rules ++ rest) events closed
says_rules p j on [] rules k events closed says once returns = subst (λ rs. Says p j k on rs events closed) (sym (append-nil rules)) says
says_rules p j on (r ∷ rest) rules k events closed says once returns =
    let whole : (rules ++ r ∷ []) ++ rest ≡ rules ++ r ∷ rest = append_assoc rules (r ∷ []) rest in
    subst (λ rs. Says p j (entered (map rule_again (r ∷ rest)) k) on rs events closed) whole
    (says_rules p j on rest (rules ++ r ∷ []) (entry.Command (rule_again r) ∷ k) events closed
    (says_rule p j k on rules events closed r says (returns r (first_there r rest)) (once_next (λ (s : Active). s.properties.name) rules r rest once))
    (subst NamesOnce (sym whole) once) (λ s there. returns s (later_there r rest s there)))
