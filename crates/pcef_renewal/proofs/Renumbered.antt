-- The new session has its bearers, slots and rules in the order of the renewal, so that its own renewal is the same.
use Rattle.std.proofs.Common.{◌≡◌, ◌∙◌, ◌≤◌, ◌+◌, ◌==◌, ◌++◌, ℕ, suc, true, false, List, [], ◌∷◌, Contains, Some, None, filter, length, map, nat_lt, take, refl, sym, ap, ap₂, subst, arith, inl, inr}
use Rattle.std.specs.Prelude.{Option, if◌then◌else◌}
use Rattle.std.specs.List.{list_any}
use Rattle.std.proofs.lemmas.Bool.{cases_Bool, eq-eqb, eqb-true, false_from_ne_true, lt-ltb, ltb-false, ltb-true, or_cases}
use Rattle.std.proofs.lemmas.List.{append-nil, append_assoc, length-map, length-take, map-append}
use Rattle.std.proofs.lemmas.List.Elements.{filter-append}
use Rattle.pcef_base.proofs.Found.{any_from}
use Rattle.pcef_base.proofs.Tests.{contrary}
use Rattle.pcef_rule.specs.declared.quantity.Qos.{Qos}
use Rattle.pcef_model.specs.declared.command.Command.{Command}
use Rattle.pcef_model.specs.declared.command.Command.TheVariants.{Close, Monitor, Triggers}
use Rattle.pcef_model.specs.declared.entry.Entry.TheVariants as entry
use Rattle.pcef_model.specs.ActiveRules.{Active}
use Rattle.pcef_model.specs.Bearers.{default_id, other_ids}
use Rattle.pcef_model.specs.Commands.{activated, add_key, is_among}
use Rattle.pcef_model.specs.Entries.{Journal}
use Rattle.pcef_model.specs.Generations.{add_if_some, has_bearer, slots_of}
use Rattle.pcef_model.specs.Journals.{grant, now, slots, subscribed, tables, unreported}
use Rattle.pcef_model.specs.Lawful.{Lawful, at_first}
use Rattle.pcef_model.specs.Refusals.{is_bearer, was_closed}
use Rattle.pcef_model.specs.Setting.{Setting, same_qos}
use Rattle.pcef_model.proofs.BearerIds.{lawful_bound}
use Rattle.pcef_model.proofs.Members.{filter_from, filter_to, first_there, later_there}
use Rattle.pcef_model.proofs.Names.{filter_once}
use Rattle.pcef_model.proofs.RulesAfter.{makes_active}
use Rattle.pcef_model.proofs.Sameness.{same_qos_is}
use Rattle.pcef_renewal.specs.Accepting.{entered}
use Rattle.pcef_renewal.specs.Maps.{bearer_again, bearers_again, pair_again, slots_again, with_keys}
use Rattle.pcef_renewal.specs.Renewal.{bearers_used, close_again, grant_after, is_any, keys_on, monitor_again, places, renewal, rest_of, rule_again, rules_in_order, rules_on, rules_on_each, subscribe_again}
use Rattle.pcef_renewal.specs.private.Again.{paired}
use Rattle.pcef_renewal.proofs.Accepted.{lawful_entered, renewal_taken}
use Rattle.pcef_renewal.proofs.ActiveFacts.{closed_empty, may_return}
use Rattle.pcef_renewal.proofs.Fitting.{KeysOnce, among_from, no_longer}
use Rattle.pcef_renewal.proofs.FreeBearers.{has_own}
use Rattle.pcef_renewal.proofs.Likeness.{add_more, entered_append, no_rows_entered, on_again, renewal_like, says_all, says_subscriptions}
use Rattle.pcef_renewal.proofs.Order.{Ascends, all_once, alone, order_once, order_there, others_ascend, places_there, places_used, some_there}
use Rattle.pcef_renewal.proofs.PlacesAll.{front_from, id_placed, order_all}
use Rattle.pcef_renewal.proofs.Playing.{made_slots_once}
use Rattle.pcef_renewal.proofs.Quiet.{nothing_counted}
use Rattle.pcef_renewal.proofs.Rebound.{Given, Numbers, given_all}
use Rattle.pcef_renewal.proofs.Regrouping.{Fits, Steps, ascend_same, ascends_take, each, filter_kept, first_by, map_same, map_there, place_alone, place_below, placed_all, places_ascend, regrouped, steps_over, steps_up}
use Rattle.pcef_renewal.proofs.Returning.{makes_plain}
use Rattle.pcef_renewal.proofs.Switching.{absent_next}

-- ---- bearers
module _ (p : Setting) (j : Journal) (lawful : Lawful p j) where
  abbrev number : ℕ → ℕ
  number id = bearer_again p j id

  abbrev id : Active → ℕ
  id r = (now p j).id_of r.properties.qos

  -- a rule on a bearer that has a place
  on_place : (n : ℕ) → Contains (places p j) n → (r : Active) × Contains (rules_on p j n) r
  on_place n there =
      let w = some_there (λ (r : Active). id r == n) (now p j).rules (places_used p j n there) in
      (w.0, filter_to (λ (r : Active). id r == n) (now p j).rules w.0 w.1 w.2)

  placed_on : (n : ℕ) (r : Active) → Contains (rules_on p j n) r → Contains (now p j).rules r × (id r ≡ n)
  placed_on n r there = (let w = filter_from (λ (s : Active). id s == n) (now p j).rules r there in (w.0, eqb-true (id r) n w.1))

  few_places : length (places p j) ≤ 10
  unfolding Rattle.pcef_model.proofs.Names.Once
  few_places = no_longer alone (places p j) other_ids (all_once p j).1 (places_there p j)

  numbers : Numbers p (now p j) number
  numbers = record {
    bound = lawful_bound p j lawful;
    five = refl;
    others = λ r there isnt.
        let range = (lawful_bound p j lawful).others r.properties.qos (own r there) isnt in
        let below = place_below (id r) (default_id ∷ places p j) (id_placed p j lawful r there) in
        (past (id r) range.0, omega (arith, below, few_places));
    alone = λ r s there also same.
        place_alone (id r) (id s) (default_id ∷ places p j) (id_placed p j lawful r there) (omega (arith, same));
  }
    where
      own : (r : Active) → Contains (now p j).rules r → has_bearer p (now p j).rules r.properties.qos ≡ true
      own = has_own p (now p j).rules

      past : (n : ℕ) → 6 ≤ n → 6 ≤ number n
      past n more =
          let differs : (n == default_id) ≡ false = false_from_ne_true (n == default_id) (λ same. let e = eqb-true n 5 same in absurd (omega (arith, e, more))) in
          rw differs (omega arith)

  ascend : Ascends 5 (map number (default_id ∷ places p j))
  ascend = places_ascend 5 (default_id ∷ places p j) (all_once p j)

  -- each place has the next number
  steps_groups : (t : ℕ) (ids : List ℕ) → Ascends (suc t) (map number ids) → ((n : ℕ) → Contains ids n → Contains (places p j) n) → Steps t (map (λ r. number (id r)) (rules_on_each p j ids))
  unfolding Ascends Steps
  steps_groups t [] up part = tt
  steps_groups t (n ∷ ids) up part =
      let w = on_place n (part n (first_there n ids)) in
      let later = steps_groups (suc t) ids up.1 (λ m there. part m (later_there n ids m there)) in
      subst (Steps t) (sym (map-append (λ r. number (id r)) (rules_on p j n) (rules_on_each p j ids)))
      (group (rules_on p j n) w.0 w.1 (λ r there. ap number (placed_on n r there).1 ∙ up.0) (map (λ r. number (id r)) (rules_on_each p j ids)) later)
    where
      group : (rs : List Active) (r : Active) → Contains rs r → ((s : Active) → Contains rs s → number (id s) ≡ suc t) → (rest : List ℕ) → Steps (suc t) rest → Steps t (map (λ s. number (id s)) rs ++ rest)
      group [] r there same rest later = absurd (omega (arith, there.1))
      group (s ∷ rs) r there same rest later =
          steps_up t (number (id s)) (map (λ s. number (id s)) rs) rest
          (λ d one. let x = map_there (λ s. number (id s)) (s ∷ rs) d one in sym x.2 ∙ same x.0 x.1) later

  steps : Steps 5 (map (λ r. number (id r)) (rules_in_order p j))
  unfolding Ascends
  steps =
      subst (Steps 5) (sym (map-append (λ r. number (id r)) (rules_on p j default_id) (rules_on_each p j (places p j))))
      (steps_over 5 (map (λ r. number (id r)) (rules_on p j default_id)) (map (λ r. number (id r)) (rules_on_each p j (places p j)))
      (λ b one.
      let x = map_there (λ r. number (id r)) (rules_on p j default_id) b one in
      let is : number (id x.0) ≡ number 5 = ap number (placed_on 5 x.0 x.1).1 in
      let five : number 5 ≡ 5 = refl in
      omega (arith, is, five, x.2))
      (steps_groups 5 (places p j) ascend.1 (λ n there. there)))

  pairs_by : (k : ℕ) (ids ns : List ℕ) → Ascends k (map number ids) → Ascends k ns → length ids ≤ length ns → paired ids ns ≡ map (pair_again p j) ids
  unfolding Ascends
  pairs_by k [] ns one other few = refl
  pairs_by k (n ∷ ids) [] one other few = absurd (omega (arith, few))
  pairs_by k (n ∷ ids) (m ∷ ns) one other few =
      let same : m ≡ number n = other.0 ∙ sym one.0 in
      ap₂ (λ x xs. record { old = record { 0 = n }; new = record { 0 = x } } ∷ xs) same (pairs_by (suc k) ids ns one.1 other.1 (omega (arith, few)))

  pub pairs_are : paired (places p j) other_ids ≡ bearers_again p j
  unfolding Ascends
  pairs_are = pairs_by 6 (places p j) other_ids ascend.1 others_ascend few_places

  -- ---- the new session
  abbrev new : Journal
  new = entered (renewal p j) []

  abbrev before : Journal
  before = entered (subscribe_again j) (entered (map (monitor_again p j) (keys_on p j)) [])

  abbrev behind : Journal
  behind = entered (map rule_again (rules_in_order p j)) before

  new_is : new ≡ entered (close_again j) behind
  new_is =
      entered_append (map (monitor_again p j) (keys_on p j)) (subscribe_again j ++ (map rule_again (rules_in_order p j) ++ close_again j)) []
      ∙ entered_append (subscribe_again j) (map rule_again (rules_in_order p j) ++ close_again j) (entered (map (monitor_again p j) (keys_on p j)) [])
      ∙ entered_append (map rule_again (rules_in_order p j)) (close_again j) before

  none_before : (now p before).rules ≡ []
  none_before = (says_subscriptions p j lawful).rules_are

  given : (u : ℕ) × Given p (now p j) (now p behind) number u
  given =
      given_all p (now p j) number numbers (rules_in_order p j) [] before 5 none_before (order_once p j)
      (λ r there. (may_return p j lawful r (order_there p j r there)).returns) (order_there p j) steps
      record {
        part = λ r there. absurd (nothing r there);
        own = λ r there. absurd (nothing r there);
        most = λ r there. absurd (nothing r there);
        all = λ m low high. absurd (omega (arith, low, high));
        some = omega arith;
      }
    where
      nothing : (r : Active) → Contains (now p before).rules r → ⊥
      nothing r there = let w = subst (λ (rs : List Active). Contains rs r) none_before there in omega (arith, w.1)

  -- ---- the number of each bearer
  rules_new : (now p new).rules ≡ rules_in_order p j
  rules_new = (says_all p j lawful).rules_are

  pub number_is : (r : Active) → Contains (now p j).rules r → (now p new).id_of r.properties.qos ≡ number (id r)
  number_is r there =
      elim (cases_Bool (was_closed j)) [
        | inl closed ↦ absurd (let w = subst (λ (rs : List Active). Contains rs r) (closed_empty p j lawful closed) there in omega (arith, w.1))
        | inr goes_on ↦
            let same : new ≡ behind = new_is ∙ (rw goes_on refl) in
            let among : Contains (now p behind).rules r =
            subst (λ (k : Journal). Contains (now p k).rules r) same (subst (λ (rs : List Active). Contains rs r) (sym rules_new) (order_all p j lawful r there)) in
            ap (λ (k : Journal). (now p k).id_of r.properties.qos) same ∙ given.1.own r among
      ]

  new_lawful : Lawful p new
  new_lawful = lawful_entered p (renewal p j) [] at_first (renewal_taken p j lawful)

  pub renumbered : (q : Qos) → has_bearer p (now p j).rules q ≡ true → (now p new).id_of q ≡ number ((now p j).id_of q)
  renumbered q has =
      elim (or_cases (same_qos q p.default_qos) (list_any (λ (r : Active). same_qos q r.properties.qos) (now p j).rules) has) [
        | inl is ↦ (lawful_bound p new new_lawful).five q is ∙ sym (ap number ((lawful_bound p j lawful).five q is))
        | inr some ↦
            let w = some_there (λ (r : Active). same_qos q r.properties.qos) (now p j).rules some in
            let same : q ≡ w.0.properties.qos = same_qos_is q w.0.properties.qos w.2 in
            ap (now p new).id_of same ∙ number_is w.0 w.1 ∙ ap (λ (x : Qos). number ((now p j).id_of x)) (sym same)
      ]

  -- a number that was no bearer's is none's
  pub numbers_apart : (q : Qos) → has_bearer p (now p j).rules q ≡ true → (n : ℕ) → ((now p new).id_of q == number n) ≡ ((now p j).id_of q == n)
  numbers_apart q has n =
      elim (cases_Bool ((now p j).id_of q == n)) [
        | inl same ↦ eq-eqb ((now p new).id_of q) (number n) (renumbered q has ∙ ap number (eqb-true ((now p j).id_of q) n same)) ∙ sym same
        | inr differs ↦
            false_from_ne_true ((now p new).id_of q == number n) (λ is.
            let one = sym (renumbered q has) ∙ eqb-true ((now p new).id_of q) (number n) is in
            let alone = place_alone ((now p j).id_of q) n (default_id ∷ places p j) (pair_placed q has) (omega (arith, one)) in
            contrary ((now p j).id_of q == n) (eq-eqb ((now p j).id_of q) n alone) differs)
            ∙ sym differs
      ]
    where
      pair_placed : (q : Qos) → has_bearer p (now p j).rules q ≡ true → Contains (default_id ∷ places p j) ((now p j).id_of q)
      pair_placed q has =
          elim (or_cases (same_qos q p.default_qos) (list_any (λ (r : Active). same_qos q r.properties.qos) (now p j).rules) has) [
            | inl is ↦ subst (λ (m : ℕ). Contains (default_id ∷ places p j) m) (sym ((lawful_bound p j lawful).five q is)) (first_there default_id (places p j))
            | inr some ↦
                let w = some_there (λ (r : Active). same_qos q r.properties.qos) (now p j).rules some in
                subst (λ (x : Qos). Contains (default_id ∷ places p j) ((now p j).id_of x)) (sym (same_qos_is q w.0.properties.qos w.2)) (id_placed p j lawful w.0 w.1)
          ]

  -- ---- the places of bearers in the new session
  abbrev front : List ℕ
  front = take (length (places p j)) other_ids

  abbrev id_new : Active → ℕ
  id_new r = (now p new).id_of r.properties.qos

  front_length : length front ≡ length (places p j)
  front_length = (let size = length-take (length (places p j)) other_ids in omega (arith, few_places, size))

  front_is : map number (places p j) ≡ front
  unfolding Ascends
  front_is = ascend_same 6 (map number (places p j)) front ascend.1 (ascends_take 6 (length (places p j)) other_ids others_ascend) (length-map (places p j) number ∙ sym front_length)

  is_new_bearer : (m : ℕ) → Contains other_ids m → is_bearer p new m ≡ nat_lt m (6 + length (places p j))
  is_new_bearer m there =
      elim (cases_Bool (nat_lt m (6 + length (places p j)))) [
        | inl low ↦
            let x = map_there number (places p j) m
            (subst (λ (ns : List ℕ). Contains ns m) (sym front_is) (front_from 6 (length (places p j)) other_ids m others_ascend there (ltb-true m (6 + length (places p j)) low))) in
            let r = on_place x.0 x.1 in
            let own = placed_on x.0 r.0 r.1 in
            any_from (λ (s : Active). id_new s == m) (now p new).rules r.0 (subst (λ (rs : List Active). Contains rs r.0) (sym rules_new) (order_all p j lawful r.0 own.0))
            (eq-eqb (id_new r.0) m (number_is r.0 own.0 ∙ ap number own.1 ∙ x.2))
            ∙ sym low
        | inr high ↦
            false_from_ne_true (is_bearer p new m) (λ used.
            let w = some_there (λ (s : Active). id_new s == m) (now p new).rules used in
            let old = order_there p j w.0 (subst (λ (rs : List Active). Contains rs w.0) rules_new w.1) in
            let is : number (id w.0) ≡ m = sym (number_is w.0 old) ∙ eqb-true (id_new w.0) m w.2 in
            let below = place_below (id w.0) (default_id ∷ places p j) (id_placed p j lawful w.0 old) in
            let past = ltb-false m (6 + length (places p j)) high in
            absurd (omega (arith, is, below, past)))
            ∙ sym high
      ]

  used_new : bearers_used p new ≡ front
  used_new = first_by (λ id. is_bearer p new id) 6 (length (places p j)) other_ids others_ascend is_new_bearer

  places_new : places p new ≡ front
  places_new =
      let whole : take (length (bearers_used p new)) other_ids ≡ front = ap (λ n. take n other_ids) (ap length used_new ∙ front_length) in
      placed_all (λ id. is_bearer p new id) (take (length (bearers_used p new)) other_ids) (filter (λ id. nat_lt (default_id + length (bearers_used p new)) id) (bearers_used p new))
      (λ n there. (filter_from (λ id. is_bearer p new id) other_ids n (subst (λ (ns : List ℕ). Contains ns n) (whole ∙ sym used_new) there)).1)
      ∙ whole

  -- ---- the order of rules in the new session
  each_is : (ks : List ℕ) → rules_on_each p new ks ≡ each id_new (now p new).rules ks
  each_is [] = refl
  each_is (k ∷ ks) = ap (λ rs. rules_on p new k ++ rs) (each_is ks)

  fits_places : (k : ℕ) (ids : List ℕ) → Ascends k (map number ids) → Fits p j id_new k ids
  unfolding Ascends Fits
  fits_places k [] up = tt
  fits_places k (n ∷ ids) up = (
    λ r there. (let own = placed_on n r there in number_is r own.0 ∙ ap number own.1 ∙ up.0),
    fits_places (suc k) ids up.1,
  )

  pub order_new : rules_in_order p new ≡ rules_in_order p j
  unfolding Ascends
  order_new =
      ap (λ ns. rules_on_each p new (default_id ∷ ns)) places_new
      ∙ each_is (default_id ∷ front)
      ∙ ap (λ rs. each id_new rs (default_id ∷ front)) rules_new
      ∙ regrouped p j id_new [] 5 (default_id ∷ places p j) (default_id ∷ front) (fits_places 5 (default_id ∷ places p j) ascend)
      (refl, ascends_take 6 (length (places p j)) other_ids others_ascend) (ap suc front_length) (λ r there. absurd (omega (arith, there.1)))

-- ---- slots
slots_monitors : (p : Setting) (j : Journal) (rest on : List (List ℕ)) (k : Journal) → slots p k ≡ on → KeysOnce (on ++ rest) →
    slots p (entered (map (monitor_again p j) rest) k) ≡ on ++ rest
unfolding slots_of
slots_monitors p j [] on k is once = is ∙ sym (append-nil on)
slots_monitors p j (l ∷ rest) on k is once =
    let whole : (on ++ l ∷ []) ++ rest ≡ on ++ l ∷ rest = append_assoc on (l ∷ []) rest in
    let new : is_among l on ≡ false = absent_next l on rest once in
    let added : add_key l on ≡ on ++ l ∷ [] = rw new refl in
    slots_monitors p j rest (on ++ l ∷ []) (entry.Command (monitor_again p j l) ∷ k) (ap (add_key l) is ∙ added) (subst KeysOnce (sym whole) once) ∙ whole

slots_rules : (p : Setting) (rest : List Active) (k : Journal) → ((r : Active) → Contains rest r → activated p (rule_again r) ≡ Some r) →
    slots p (entered (map rule_again rest) k) ≡ with_keys (slots p k) rest
slots_rules p [] k returns = refl
slots_rules p (r ∷ rest) k returns =
    let c : Command = rule_again r in
    let own = returns r (first_there r rest) in
    slots_rules p rest (entry.Command c ∷ k) (λ s there. returns s (later_there r rest s there))
    ∙ ap (λ keys. with_keys keys rest) ((makes_plain p k c r own).slots_are ∙ ap (λ l. add_if_some l (slots p k)) (makes_active p c r own).key_is)

slots_subscribed : (p : Setting) (j k : Journal) → slots p (entered (subscribe_again j) k) ≡ slots p k
slots_subscribed p j k = elim (cases_Bool (is_any (subscribed j))) [ inl some ↦ rw some refl | inr none ↦ rw none refl ]

slots_closed : (p : Setting) (j k : Journal) → slots p (entered (close_again j) k) ≡ slots p k
unfolding slots_of
slots_closed p j k = elim (cases_Bool (was_closed j)) [ inl closed ↦ rw closed refl | inr goes_on ↦ rw goes_on refl ]

keys_once : (p : Setting) (j : Journal) → KeysOnce (keys_on p j)
keys_once p j = filter_once (λ (x : List ℕ). x) (λ key. is_among key (now p j).on) (slots p j) (made_slots_once p (tables j))

pub slots_new : (p : Setting) (j : Journal) → Lawful p j → slots p (entered (renewal p j) []) ≡ slots_again p j
unfolding slots_of
slots_new p j lawful =
    let on : Journal = entered (map (monitor_again p j) (keys_on p j)) [] in
    let all : Journal = entered (subscribe_again j) on in
    ap (slots p) (new_is p j lawful)
    ∙ slots_closed p j (behind p j lawful)
    ∙ slots_rules p (rules_in_order p j) all (λ r there. (may_return p j lawful r (order_there p j r there)).returns)
    ∙ ap (λ keys. with_keys keys (rules_in_order p j)) (slots_subscribed p j on ∙ slots_monitors p j (keys_on p j) [] [] refl (keys_once p j))

-- ---- the keys that are on come first
first_on : (on keys : List (List ℕ)) (rules : List Active) → ((key : List ℕ) → is_among key on ≡ true → is_among key keys ≡ true) →
    filter (λ key. is_among key on) (with_keys keys rules) ≡ filter (λ key. is_among key on) keys
first_on on keys [] within = refl
first_on on keys (r ∷ rules) within =
    first_on on (add_if_some r.properties.key keys) rules (λ key is. add_more key r.properties.key keys (within key is)) ∙ by_key r.properties.key
  where
    by_key : (named : Option (List ℕ)) → filter (λ key. is_among key on) (add_if_some named keys) ≡ filter (λ key. is_among key on) keys
    by_key None = refl
    by_key (Some l) =
        elim (cases_Bool (is_among l keys)) [
          | inl there ↦ rw there refl
          | inr absent ↦
              let off : is_among l on ≡ false = false_from_ne_true (is_among l on) (λ is. contrary (is_among l keys) (within l is) absent) in
              let none : filter (λ key. is_among key on) (l ∷ []) ≡ [] = rw off refl in
              rw absent (filter-append (λ key. is_among key on) keys (l ∷ []) ∙ ap (λ ks. filter (λ key. is_among key on) keys ++ ks) none ∙ append-nil (filter (λ key. is_among key on) keys))
        ]

keys_new : (p : Setting) (j : Journal) → Lawful p j → keys_on p (entered (renewal p j) []) ≡ keys_on p j
keys_new p j lawful =
    ap₂ (λ on keys. filter (λ key. is_among key on) keys) (says_all p j lawful).on_are (slots_new p j lawful)
    ∙ first_on (keys_on p j) (keys_on p j) (rules_in_order p j) (λ key there. there)
    ∙ filter_kept (λ key. is_among key (keys_on p j)) (keys_on p j) (λ key there. among_from key (keys_on p j) there)

-- ---- the same grants
pub some_left : (g : Option ℕ) (octets : ℕ) → 1 ≤ grant_after g octets
some_left None octets = omega arith
some_left (Some amount) octets =
    elim (cases_Bool (nat_lt octets amount)) [
      | inl less ↦ let below = ltb-true octets amount less in rw less (omega (arith, below))
      | inr used ↦ rw used (omega arith)
    ]

all_left : (amount : ℕ) → 1 ≤ amount → rest_of amount 0 ≡ amount
all_left amount some = rw (lt-ltb 0 amount (omega (arith, some))) (omega arith)

monitor_same : (p : Setting) (j : Journal) → Lawful p j → (key : List ℕ) → Contains (keys_on p j) key → monitor_again p (entered (renewal p j) []) key ≡ monitor_again p j key
monitor_same p j lawful key there =
    let k : Journal = entered (renewal p j) [] in
    let among : is_among key (keys_on p j) ≡ true = among_from key (keys_on p j) there in
    let on : is_among key (now p j).on ≡ true = sym (on_again p j key) ∙ among in
    let due : ℕ = grant_after (grant j key) (unreported p j key) in
    let nothing : unreported p k key ≡ 0 = nothing_counted p k key (no_rows_entered (renewal p j) []) in
    let amount : grant_after (grant k key) (unreported p k key) ≡ due =
    ap₂ grant_after ((says_all p j lawful).grants key among) nothing ∙ all_left due (some_left (grant j key) (unreported p j key)) in
    ap₂ (λ n level. Monitor key n level) amount ((renewal_like p j lawful).levels key (rw on refl))

-- ---- the same list
pub comes_again : (p : Setting) (j : Journal) → Lawful p j → renewal p (entered (renewal p j) []) ≡ renewal p j
comes_again p j lawful =
    let k : Journal = entered (renewal p j) [] in
    let says = says_all p j lawful in
    let monitors : map (monitor_again p k) (keys_on p k) ≡ map (monitor_again p j) (keys_on p j) =
    ap (map (monitor_again p k)) (keys_new p j lawful) ∙ map_same (monitor_again p k) (monitor_again p j) (keys_on p j) (monitor_same p j lawful) in
    let subscriptions : subscribe_again k ≡ subscribe_again j = ap (λ set. if is_any set then Triggers set ∷ [] else []) says.events_are in
    let closes : close_again k ≡ close_again j = ap (λ b. if b then Close ∷ [] else []) says.closed_is in
    ap₂ (λ a b. a ++ b) monitors
    (ap₂ (λ a b. a ++ b) subscriptions (ap₂ (λ a b. a ++ b) (ap (map rule_again) (order_new p j lawful)) closes))
