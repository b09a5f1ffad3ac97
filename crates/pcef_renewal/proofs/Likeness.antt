-- The new session is like the old one once it took the renewal.
use Rattle.std.proofs.Common.{◌≡◌, ◌∙◌, ◌≤◌, ◌<◌, ◌+◌, ◌-◌, ◌||◌, ℕ, suc, Bool, true, false, not, List, [], ◌∷◌, ◌++◌, Contains, Some, None, length, map, nat_le, nat_lt, refl, sym, ap, ap₂, subst, arith, inl, inr}
use Rattle.std.specs.Prelude.{Option, if◌then◌else◌}
use Rattle.std.specs.List.{list_any}
use Rattle.std.proofs.lemmas.Bool.{cases_Bool, cases_lt, false_from_ne_true, le-leb, lt-leb, ltb-false, ltb-true, or_parts}
use Rattle.pcef_base.proofs.Found.{any_from}
use Rattle.pcef_base.proofs.Tests.{contrary}
use Rattle.pcef_rule.specs.declared.quantity.Qos.{Qos}
use Rattle.pcef_rule.specs.declared.rule.Properties.{Properties}
use Rattle.pcef_model.specs.declared.command.Command.{Command}
use Rattle.pcef_model.specs.declared.command.Command.TheVariants.{Install, Activate, Remove, Monitor, Stop, ReportNow, Triggers, Notice, LoseBearer, Close, Terminate}
use Rattle.pcef_model.specs.declared.entry.Entry.TheVariants as entry
use Rattle.pcef_model.specs.declared.level.Level.TheVariants.{Rule, Session}
use Rattle.pcef_model.specs.declared.trigger.TriggerSet.{TriggerSet}
use Rattle.pcef_model.specs.ActiveRules.{Active, Detection, by_filters, by_shape, has_key, is_key}
use Rattle.pcef_model.specs.Bearers.{rate_down, rate_up}
use Rattle.pcef_model.specs.Commands.{is_among, key_named, switched}
use Rattle.pcef_model.specs.Entries.{Journal, rows}
use Rattle.pcef_model.specs.Generations.{Generation, add_if_some, has_bearer, made_by, rules_after, slots_of}
use Rattle.pcef_model.specs.Journals.{grant, level_of, no_triggers, now, slots, subscribed, tables, unreported}
use Rattle.pcef_model.specs.Lawful.{Lawful, at_first}
use Rattle.pcef_model.specs.Refusals.{limited_count, total_down, total_up, was_closed}
use Rattle.pcef_model.specs.Reports.{is_reached_by}
use Rattle.pcef_model.specs.Setting.{Setting, same_name, same_qos}
use Rattle.pcef_model.proofs.BearerIds.{lawful_bound}
use Rattle.pcef_model.proofs.Decisive.{made_once}
use Rattle.pcef_model.proofs.Levels.{among_add, session_keys_have_no_rule}
use Rattle.pcef_model.proofs.Members.{filter_from, first_there}
use Rattle.pcef_model.proofs.Names.{filter_any, filter_once}
use Rattle.pcef_renewal.specs.Accepting.{entered}
use Rattle.pcef_renewal.specs.Likeness.{Like, ReachesAlike, is_kept}
use Rattle.pcef_renewal.specs.Renewal.{close_again, grant_after, is_any, keys_on, monitor_again, out_of_reach, renewal, rule_again, rule_again_by, rules_in_order, subscribe_again}
use Rattle.pcef_model.proofs.Ending.{among_kept}
use Rattle.pcef_session.specs.SessionModel.{SessionModel}
use Rattle.pcef_renewal.specs.Renewing.{IsRenewed, commands_needed}
use Rattle.pcef_renewal.proofs.Accepted.{lawful_entered, renewal_taken}
use Rattle.pcef_renewal.proofs.ActiveFacts.{closed_empty, may_return}
use Rattle.pcef_renewal.proofs.Fitting.{among_to, fits, no_longer}
use Rattle.pcef_renewal.proofs.Order.{order_once, order_there, some_there}
use Rattle.pcef_renewal.proofs.PlacesAll.{order_all}
use Rattle.pcef_renewal.proofs.Playing.{made_slots_once}
use Rattle.pcef_renewal.proofs.Quiet.{nothing_counted}
use Rattle.pcef_renewal.proofs.Returning.{down_is, up_is}
use Rattle.pcef_renewal.proofs.Saying.{Says, says_close, says_monitors, says_nothing, says_rules, says_triggers}

-- ---- a key that is on has a slot
pub add_more : (key : List ℕ) (named : Option (List ℕ)) (keys : List (List ℕ)) → is_among key keys ≡ true → is_among key (add_if_some named keys) ≡ true
add_more key None keys there = there
add_more key (Some l) keys there = among_add key l keys ∙ rw there refl

among_switched : (p : Setting) (c : Command) (on keys : List (List ℕ)) (key : List ℕ) → (is_among key on ≡ true → is_among key keys ≡ true) → is_among key (switched c on) ≡ true →
    is_among key (add_if_some (key_named p c) keys) ≡ true
among_switched p (Monitor l amount level) on keys key had there =
    among_add key l keys ∙ from (is_among key on) (is_among key keys) (same_name key l) had (sym (among_add key l on) ∙ there)
  where
    from : (a b d : Bool) → (a ≡ true → b ≡ true) → (a || d) ≡ true → (b || d) ≡ true
    from true b d keep some = rw (keep refl) refl
    from false true d keep some = refl
    from false false d keep some = some
among_switched p (Stop l) on keys key had there = had (filter_any (same_name key) (λ k. not (same_name l k)) on there)
among_switched p Terminate on keys key had there = absurd cc
among_switched p (Install rule) on keys key had there = add_more key (key_named p (Install rule)) keys (had there)
among_switched p (Activate name) on keys key had there = add_more key (key_named p (Activate name)) keys (had there)
among_switched p (Remove name) on keys key had there = had there
among_switched p (ReportNow l) on keys key had there = had there
among_switched p (Triggers set) on keys key had there = had there
among_switched p (Notice kind value) on keys key had there = had there
among_switched p (LoseBearer id) on keys key had there = had there
among_switched p Close on keys key had there = had there

pub on_has_slot : (p : Setting) (cs : List Command) (key : List ℕ) → is_among key (made_by p cs).on ≡ true → is_among key (slots_of p cs) ≡ true
unfolding made_by slots_of
on_has_slot p [] key there = absurd cc
on_has_slot p (c ∷ cs) key there =
    let g : Generation = made_by p cs in
    among_switched p c g.on (slots_of p cs) key (on_has_slot p cs key)
    (filter_any (same_name key) (λ k. not (has_key k g.rules) || has_key k (rules_after p g c)) (switched c g.on) there)

pub on_again : (p : Setting) (j : Journal) (key : List ℕ) → is_among key (keys_on p j) ≡ is_among key (now p j).on
on_again p j key =
    let test : List ℕ → Bool = λ k. is_among k (now p j).on in
    elim (cases_Bool (is_among key (now p j).on)) [
      | inl is ↦ among_kept test key (slots p j) (on_has_slot p (tables j) key is) is ∙ sym is
      | inr isnt ↦
          false_from_ne_true (is_among key (keys_on p j)) (λ there. contrary (is_among key (now p j).on) (filter_from test (slots p j) key (among_to key (keys_on p j) there)).1 isnt) ∙ sym isnt
    ]

-- ---- the whole list
pub entered_append : (cs ds : List Command) (k : Journal) → entered (cs ++ ds) k ≡ entered ds (entered cs k)
entered_append [] ds k = refl
entered_append (c ∷ cs) ds k = entered_append cs ds (entry.Command c ∷ k)

none_any : (set : TriggerSet) → is_any set ≡ false → set ≡ no_triggers
none_any set none = from set.usage_report set.rat_change set.plmn_change set.user_location_change set.ue_time_zone_change none
  where
    from : (a b c d e : Bool) → (a || b || c || d || e) ≡ false →
        record { usage_report = a; rat_change = b; plmn_change = c; user_location_change = d; ue_time_zone_change = e } ≡ no_triggers
    from a b c d e none =
        let four = or_parts (a || b || c || d) e none in
        let three = or_parts (a || b || c) d four.0 in
        let two = or_parts (a || b) c three.0 in
        let one = or_parts a b two.0 in
        rw (one.0, one.1, two.1, three.1, four.1) refl

module _ (p : Setting) (j : Journal) (lawful : Lawful p j) where
  abbrev keys : List Command
  keys = map (monitor_again p j) (keys_on p j)

  abbrev rules : List Command
  rules = map rule_again (rules_in_order p j)

  says_keys : Says p j (entered keys []) (keys_on p j) [] no_triggers false
  says_keys =
      says_monitors p j (keys_on p j) [] [] no_triggers false (says_nothing p j)
      (filter_once (λ (x : List ℕ). x) (λ key. is_among key (now p j).on) (slots p j) (made_slots_once p (tables j)))

  pub says_subscriptions : Says p j (entered (subscribe_again j) (entered keys [])) (keys_on p j) [] (subscribed j) false
  says_subscriptions =
      elim (cases_Bool (is_any (subscribed j))) [
        | inl some ↦ rw some (says_triggers p j (entered keys []) (keys_on p j) [] no_triggers false (subscribed j) says_keys)
        | inr none ↦ rw none (subst (λ (set : TriggerSet). Says p j (entered keys []) (keys_on p j) [] set false) (sym (none_any (subscribed j) none)) says_keys)
      ]

  says_active : Says p j (entered rules (entered (subscribe_again j) (entered keys []))) (keys_on p j) (rules_in_order p j) (subscribed j) false
  says_active =
      says_rules p j (keys_on p j) (rules_in_order p j) [] (entered (subscribe_again j) (entered keys [])) (subscribed j) false says_subscriptions (order_once p j)
      (λ r there. (may_return p j lawful r (order_there p j r there)).returns)

  says_end : Says p j (entered (close_again j) (entered rules (entered (subscribe_again j) (entered keys [])))) (keys_on p j) (rules_in_order p j) (subscribed j) (was_closed j)
  says_end =
      elim (cases_Bool (was_closed j)) [
        | inr goes_on ↦ rw goes_on says_active
        | inl closed ↦
            let none : rules_in_order p j ≡ [] = nothing_there (rules_in_order p j) (λ r there.
            let w = subst (λ (rs : List Active). Contains rs r) (closed_empty p j lawful closed) (order_there p j r there) in absurd (omega (arith, w.1))) in
            let k : Journal = entered rules (entered (subscribe_again j) (entered keys [])) in
            let before : Says p j k (keys_on p j) [] (subscribed j) false = subst (λ (rs : List Active). Says p j k (keys_on p j) rs (subscribed j) false) none says_active in
            rw closed (subst (λ (rs : List Active). Says p j (entry.Command Close ∷ k) (keys_on p j) rs (subscribed j) true) (sym none) (says_close p j k (keys_on p j) (subscribed j) false before))
      ]
    where
      nothing_there : (xs : List Active) → ((x : Active) → Contains xs x → ⊥) → xs ≡ []
      nothing_there [] none = refl
      nothing_there (x ∷ xs) none = absurd (none x (first_there x xs))

  pub says_all : Says p j (entered (renewal p j) []) (keys_on p j) (rules_in_order p j) (subscribed j) (was_closed j)
  says_all =
      subst (λ (k : Journal). Says p j k (keys_on p j) (rules_in_order p j) (subscribed j) (was_closed j))
      (sym (entered_append keys (subscribe_again j ++ (rules ++ close_again j)) []
      ∙ entered_append (subscribe_again j) (rules ++ close_again j) (entered keys []) ∙ entered_append rules (close_again j) (entered (subscribe_again j) (entered keys []))))
      says_end

-- ---- lists with the same elements
pub same_any : {X : Type 0} (test : X → Bool) (xs ys : List X) → ((x : X) → Contains xs x → Contains ys x) → ((x : X) → Contains ys x → Contains xs x) → list_any test xs ≡ list_any test ys
same_any test xs ys to back =
    elim (cases_Bool (list_any test ys)) [
      | inl some ↦ let w = some_there test ys some in any_from test xs w.0 (back w.0 w.1) w.2 ∙ sym some
      | inr none ↦
          false_from_ne_true (list_any test xs) (λ some. let w = some_there test xs some in contrary (list_any test ys) (any_from test ys w.0 (to w.0 w.1) w.2) none) ∙ sym none
    ]

-- ---- grants
reached_alike : (g : Option ℕ) (octets more : ℕ) → 1 ≤ more → more < out_of_reach → is_reached_by (Some (grant_after g octets)) more ≡ is_reached_by g (octets + more)
reached_alike None octets more some far = lt-leb out_of_reach more far
reached_alike (Some amount) octets more some far =
    elim (cases_Bool (nat_lt octets amount)) [
      | inl less ↦ rw less (by_rest (amount - octets) (ltb-true octets amount less))
      | inr used ↦
          let past = ltb-false octets amount used in
          rw used (le-leb 1 more some ∙ sym (le-leb amount (octets + more) (omega (arith, past))))
    ]
  where
    by_rest : (rest : ℕ) → octets < amount → nat_le (amount - octets) more ≡ nat_le amount (octets + more)
    by_rest rest less =
        elim (cases_lt more (amount - octets)) [
          | inl below ↦ lt-leb (amount - octets) more below ∙ sym (lt-leb amount (octets + more) (omega (arith, below, less)))
          | inr reached ↦ le-leb (amount - octets) more reached ∙ sym (le-leb amount (octets + more) (omega (arith, reached, less)))
        ]

pub no_rows_entered : (cs : List Command) (k : Journal) → rows (entered cs k) ≡ rows k
no_rows_entered [] k = refl
no_rows_entered (c ∷ cs) k = no_rows_entered cs (entry.Command c ∷ k)

-- ---- levels
no_level : (b : Bool) → (if b then Session else Rule) ≡ Session → b ≡ true
no_level true is = refl
no_level false is = absurd cc

-- ---- all
module _ (p : Setting) (j : Journal) (lawful : Lawful p j) where
  abbrev new : Journal
  new = entered (renewal p j) []

  abbrev says : Says p j new (keys_on p j) (rules_in_order p j) (subscribed j) (was_closed j)
  says = says_all p j lawful

  to_new : (r : Active) → Contains (now p j).rules r → Contains (now p new).rules r
  to_new r there = subst (λ (rs : List Active). Contains rs r) (sym says.rules_are) (order_all p j lawful r there)

  to_old : (r : Active) → Contains (now p new).rules r → Contains (now p j).rules r
  to_old r there = order_there p j r (subst (λ (rs : List Active). Contains rs r) says.rules_are there)

  same_test : (test : Active → Bool) → list_any test (now p new).rules ≡ list_any test (now p j).rules
  same_test test = same_any test (now p new).rules (now p j).rules to_old to_new

  level_alike : (key : List ℕ) → is_kept p j key ≡ true → level_of (now p new) key ≡ level_of (now p j) key
  level_alike key kept =
      ap (λ (b : Bool). if b then Session else Rule)
      (says.session_is key
      ∙ elim (cases_Bool (is_among key (now p j).on)) [
        | inl on ↦ rw (on_again p j key ∙ on) refl
        | inr off ↦
            let has : has_key key (now p j).rules ≡ true = rw off at kept in
            let rule_level : is_among key (now p j).session ≡ false =
            false_from_ne_true (is_among key (now p j).session) (λ is. contrary (has_key key (now p j).rules) has (session_keys_have_no_rule p j lawful key (rw is refl))) in
            rw (on_again p j key ∙ off, rule_level) refl
      ])

  grant_alike : (key : List ℕ) → is_among key (now p j).on ≡ true → ReachesAlike p j new key
  grant_alike key on more some far =
      let nothing : unreported p new key ≡ 0 = nothing_counted p new key (no_rows_entered (renewal p j) []) in
      let own : grant new key ≡ Some (grant_after (grant j key) (unreported p j key)) = says.grants key (on_again p j key ∙ on) in
      let octets : unreported p new key + more ≡ more = omega (arith, nothing) in
      ap₂ is_reached_by own octets ∙ reached_alike (grant j key) (unreported p j key) more some (omega (arith, far, octets))

  pair_alike : (q : Qos) → has_bearer p (now p new).rules q ≡ has_bearer p (now p j).rules q
  pair_alike q = ap (λ b. same_qos q p.default_qos || b) (same_test (λ (r : Active). same_qos q r.properties.qos))

  new_lawful : Lawful p new
  new_lawful = lawful_entered p (renewal p j) [] at_first (renewal_taken p j lawful)

  same_up : total_up (now p new).rules ≡ total_up (now p j).rules
  same_up =
      let w : Active → ℕ = λ r. rate_up r.properties.rates in
      let name : Active → List ℕ = λ r. r.properties.name in
      let more = fits name w (now p new).rules (now p j).rules (made_once p (tables new)) to_old in
      let less = fits name w (now p j).rules (now p new).rules (made_once p (tables j)) to_new in
      omega (arith, more, less, up_is (now p new).rules, up_is (now p j).rules)

  same_down : total_down (now p new).rules ≡ total_down (now p j).rules
  same_down =
      let w : Active → ℕ = λ r. rate_down r.properties.rates in
      let name : Active → List ℕ = λ r. r.properties.name in
      let more = fits name w (now p new).rules (now p j).rules (made_once p (tables new)) to_old in
      let less = fits name w (now p j).rules (now p new).rules (made_once p (tables j)) to_new in
      omega (arith, more, less, down_is (now p new).rules, down_is (now p j).rules)

  pub renewal_like : Like p j new
  renewal_like = record {
    rules = λ r. (to_new r, to_old r);
    on = λ key. ap (is_among key) says.on_are ∙ on_again p j key;
    events = says.events_are;
    closed = says.closed_is;
    slots_kept = λ key. says.slots_are key
        ∙ ap₂ (λ a b. a || b) (on_again p j key) (sym (ap (has_key key) says.rules_are) ∙ same_test (λ (r : Active). is_key key r.properties.key));
    levels = level_alike;
    grants = grant_alike;
    pairs = pair_alike;
    bearers = λ q r has has2. (
      λ same. ap (now p new).id_of ((lawful_bound p j lawful).distinct q r has has2 same),
      λ same. ap (now p j).id_of ((lawful_bound p new new_lawful).distinct q r (pair_alike q ∙ has) (pair_alike r ∙ has2) same),
    );
    rates = ap₂ (λ up down. record { up = up; down = down }) same_up same_down;
  }

-- ---- what it needs
monitors_limited : (p : Setting) (j : Journal) (ks : List (List ℕ)) (k : Journal) → limited_count (entered (map (monitor_again p j) ks) k) ≡ length ks + limited_count k
unfolding limited_count
monitors_limited p j [] k = omega arith
monitors_limited p j (l ∷ ks) k = let rest = monitors_limited p j ks (entry.Command (monitor_again p j l) ∷ k) in omega (arith, rest)

rule_limited : (properties : Properties) (detection : Detection) (k : Journal) → limited_count (entry.Command (rule_again_by properties detection) ∷ k) ≡ suc (limited_count k)
unfolding limited_count
rule_limited properties (by_filters filters) k = omega arith
rule_limited properties (by_shape shape) k = omega arith

rules_limited : (rs : List Active) (k : Journal) → limited_count (entered (map rule_again rs) k) ≡ length rs + limited_count k
rules_limited [] k = omega arith
rules_limited (r ∷ rs) k =
    let rest = rules_limited rs (entry.Command (rule_again r) ∷ k) in let one = rule_limited r.properties r.detection k in omega (arith, rest, one)

subscription_limited : (j k : Journal) → limited_count (entered (subscribe_again j) k) ≡ (if is_any (subscribed j) then 1 else 0) + limited_count k
unfolding limited_count
subscription_limited j k = elim (cases_Bool (is_any (subscribed j))) [ inl some ↦ rw some refl | inr none ↦ rw none (omega arith) ]

close_limited : (j k : Journal) → limited_count (entered (close_again j) k) ≡ limited_count k
unfolding limited_count
close_limited j k = elim (cases_Bool (was_closed j)) [ inl closed ↦ rw closed (omega arith) | inr goes_on ↦ rw goes_on refl ]

nothing_limited : limited_count [] ≡ 0
unfolding limited_count
nothing_limited = refl

pub needs_what_it_says : (p : Setting) (j : Journal) → Lawful p j → limited_count (entered (renewal p j) []) ≡ commands_needed p j
needs_what_it_says p j lawful =
    let ms : List Command = map (monitor_again p j) (keys_on p j) in
    let rs : List Command = map rule_again (rules_in_order p j) in
    let a : Journal = entered ms [] in
    let b : Journal = entered (subscribe_again j) a in
    let d : Journal = entered rs b in
    let whole : entered (renewal p j) [] ≡ entered (close_again j) d =
    entered_append ms (subscribe_again j ++ (rs ++ close_again j)) [] ∙ entered_append (subscribe_again j) (rs ++ close_again j) a ∙ entered_append rs (close_again j) b in
    let name : Active → List ℕ = λ r. r.properties.name in
    let less = no_longer name (rules_in_order p j) (now p j).rules (order_once p j) (order_there p j) in
    let more = no_longer name (now p j).rules (rules_in_order p j) (made_once p (tables j)) (order_all p j lawful) in
    ap limited_count whole
    ∙ omega (arith, close_limited j d, rules_limited (rules_in_order p j) b, subscription_limited j a, monitors_limited p j (keys_on p j) [], nothing_limited, less, more)

-- ---- the step
pub new_is_like : (old next : SessionModel) → Lawful old.setting old.journal → IsRenewed old next → Like old.setting old.journal next.journal
new_is_like old next lawful renewed = subst (Like old.setting old.journal) (sym renewed.journal) (renewal_like old.setting old.journal lawful)
