-- Sessions that are alike refuse the same commands, for the same reasons.
use Rattle.std.proofs.Common.{◌≡◌, ◌∙◌, ◌≤◌, ◌<◌, ◌==◌, ◌&&◌, ◌||◌, ◌++◌, ℕ, Bool, true, false, not, List, [], ◌∷◌, Contains, Some, None, filter, length, nat_le, nat_lt, refl, sym, ap, ap₂, subst, arith, inl, inr}
use Rattle.std.specs.Prelude.{Option, is_none, is_some, if◌then◌else◌}
use Rattle.std.specs.List.{list_any}
use Rattle.std.proofs.lemmas.Bool.{cases_Bool, eq-eqb, eqb-true, false_from_ne_true, leb-false, lt-leb, not-false, or_cases, or_left, or_right}
use Rattle.std.proofs.lemmas.List.Elements.{All-contains}
use Rattle.pcef_base.proofs.Found.{any_from, find_none}
use Rattle.pcef_base.proofs.Foremost.{none_passes}
use Rattle.pcef_base.proofs.Tests.{contrary}
use Rattle.pcef_rule.specs.declared.quantity.Qos.{Qos}
use Rattle.pcef_rule.specs.declared.rule.Properties.{Properties}
use Rattle.pcef_catalog.specs.declared.listing.Offer.{Offer}
use Rattle.pcef_model.specs.declared.answer.Refusal.{Refusal}
use Rattle.pcef_model.specs.declared.answer.Refusal.TheVariants as refusal
use Rattle.pcef_model.specs.declared.command.Command.{Command}
use Rattle.pcef_model.specs.declared.command.Command.TheVariants.{Install, Activate, Remove, Monitor, Stop, ReportNow, Triggers, Notice, LoseBearer, Close, Terminate}
use Rattle.pcef_model.specs.declared.level.Level.{Level}
use Rattle.pcef_model.specs.declared.level.Level.TheVariants.{Rule}
use Rattle.pcef_model.specs.ActiveRules.{Active, is_named, without}
use Rattle.pcef_model.specs.Bearers.{default_id, other_ids, rate_down, rate_up}
use Rattle.pcef_model.specs.Commands.{is_among, key_offered}
use Rattle.pcef_model.specs.Entries.{Journal}
use Rattle.pcef_model.specs.Generations.{Generation, free_id, has_bearer, kept}
use Rattle.pcef_model.specs.Journals.{attached, now, slots, tables}
use Rattle.pcef_model.specs.Lawful.{Lawful}
use Rattle.pcef_model.specs.Named.{has_name}
use Rattle.pcef_model.specs.Refusals.{Conditions, becoming_active, becoming_active_if, bind_refusals, bindings, clashes, common_refusals, end_refusals, finds_no_bearer, finds_no_slot, first_refusals, is_active, is_bearer, limited_count, own_refusals, refusals, total_down, total_up, was_terminated}
use Rattle.pcef_model.specs.Setting.{Setting, most_keys, most_rules, offer_named, same_level, same_qos}
use Rattle.pcef_model.proofs.BearerIds.{IsBound, lawful_bound}
use Rattle.pcef_model.proofs.Decisive.{made_once}
use Rattle.pcef_model.proofs.Members.{filter_from, filter_to, there_cases}
use Rattle.pcef_model.proofs.Names.{Once, filter_any, filter_once}
use Rattle.pcef_model.proofs.Sameness.{same_name_is, same_qos_self}
use Rattle.pcef_renewal.specs.Alike.{Alike, KnowsAlike, Renumbers, image, key_asked}
use Rattle.pcef_renewal.proofs.Fitting.{among_from, among_to, fits, no_longer, sum_of}
use Rattle.pcef_renewal.proofs.FreeBearers.{has_own, numbers_before, was_other}
use Rattle.pcef_renewal.proofs.Likeness.{same_any}
use Rattle.pcef_renewal.proofs.Order.{alone, others_once, some_there}
use Rattle.pcef_renewal.proofs.Playing.{made_slots_once}
use Rattle.pcef_renewal.proofs.Returning.{down_is, up_is}

-- ---- part of the rules of a generation
abbrev part_of : (Active → Bool) → Generation → Generation
part_of t g = record { rules = filter t g.rules; id_of = g.id_of; on = g.on; session = g.session }

more_bearers : (p : Setting) (t : Active → Bool) (rules : List Active) (q : Qos) → has_bearer p (filter t rules) q ≡ true → has_bearer p rules q ≡ true
more_bearers p t rules q has =
    elim (or_cases (same_qos q p.default_qos) (list_any (λ (r : Active). same_qos q r.properties.qos) (filter t rules)) has) [
      | inl is ↦ or_left (same_qos q p.default_qos) (list_any (λ (r : Active). same_qos q r.properties.qos) rules) is
      | inr some ↦
          or_right (same_qos q p.default_qos) (list_any (λ (r : Active). same_qos q r.properties.qos) rules)
          (filter_any (λ (r : Active). same_qos q r.properties.qos) t rules some)
    ]

part_bound : (p : Setting) (t : Active → Bool) (g : Generation) → IsBound p g → IsBound p (part_of t g)
part_bound p t g bound = record {
  once = filter_once (λ (r : Active). r.properties.name) t g.rules bound.once;
  five = bound.five;
  others = λ q has isnt. bound.others q (more_bearers p t g.rules q has) isnt;
  distinct = λ q r has has2 same. bound.distinct q r (more_bearers p t g.rules q has) (more_bearers p t g.rules r has2) same;
}

-- ---- bearers
same_none : (a b : Option ℕ) → (a ≡ None → b ≡ None) → (b ≡ None → a ≡ None) → is_none a ≡ is_none b
same_none None b to back = rw (to refl) refl
same_none (Some n) None to back = absurd (let e = back refl in cc)
same_none (Some n) (Some m) to back = refl

module _ (p : Setting) (g h : Generation) (g_bound : IsBound p g) (h_bound : IsBound p h) (t : Active → Bool) (to : (r : Active) → Contains h.rules r → Contains g.rules r) where
  rest_to : (r : Active) → Contains (filter t h.rules) r → Contains (filter t g.rules) r
  rest_to r there = (let w = filter_from t h.rules r there in filter_to t g.rules r (to r w.0) w.1)

  -- where each number is used by the rules that stay in the one, each is in the other
  all_used : free_id p h (filter t h.rules) ≡ None → (n : ℕ) → Contains other_ids n → (r : Active) × Contains (filter t h.rules) r × (h.id_of r.properties.qos ≡ n)
  all_used none n there =
      let free : ℕ → Bool = λ n. not (list_any (λ (s : Active). n == h.id_of s.properties.qos) (kept p h (filter t h.rules))) in
      let used =
      not-false (list_any (λ (s : Active). n == h.id_of s.properties.qos) (kept p h (filter t h.rules)))
      (All-contains (λ (m : ℕ). free m ≡ false) other_ids n (none_passes free other_ids none) there) in
      let w = some_there (λ (s : Active). n == h.id_of s.properties.qos) (kept p h (filter t h.rules)) used in
      (w.0, (filter_from (λ (s : Active). has_bearer p h.rules s.properties.qos) (filter t h.rules) w.0 w.1).0, sym (eqb-true n (h.id_of w.0.properties.qos) w.2))

  none_free : free_id p h (filter t h.rules) ≡ None → free_id p g (filter t g.rules) ≡ None
  unfolding Once
  none_free none =
      let old : Generation = part_of t g in
      let new : Generation = part_of t h in
      let old_bound = part_bound p t g g_bound in
      let new_bound = part_bound p t h h_bound in
      let before = numbers_before p old new old_bound new_bound rest_to other_ids others_once (all_used none) in
      let within : (i : ℕ) → Contains before.0 i → Contains other_ids i =
      (λ i there. let s = before.3 i there in subst (λ (m : ℕ). Contains other_ids m) s.3 (was_other p old new old_bound new_bound rest_to s.0 s.1 s.2)) in
      find_none (λ n. not (list_any (λ (s : Active). n == g.id_of s.properties.qos) (kept p g (filter t g.rules)))) other_ids (λ n there.
      let among : Contains before.0 n = elim (cases_Bool (list_any (has_name alone (alone n)) before.0)) [
        | inl is ↦
            let w = some_there (has_name alone (alone n)) before.0 is in
            let same : alone w.0 ≡ alone n = same_name_is (alone w.0) (alone n) w.2 in
            let is_n : w.0 ≡ n = cc in
            subst (λ (m : ℕ). Contains before.0 m) is_n w.1
        | inr absent ↦
            let few = no_longer alone (n ∷ before.0) other_ids (absent, before.2) (λ i one. elim (there_cases n before.0 i one) [
              | inl same ↦ subst (λ (m : ℕ). Contains other_ids m) same there
              | inr later ↦ within i later
            ]) in
            absurd (omega (arith, few, before.1))
      ] in
      let s = before.3 n among in
      let own : Contains (filter t g.rules) s.0 = rest_to s.0 s.1 in
      let both : Contains (kept p g (filter t g.rules)) s.0 =
      filter_to (λ (r : Active). has_bearer p g.rules r.properties.qos) (filter t g.rules) s.0 own (has_own p g.rules s.0 (filter_from t g.rules s.0 own).0) in
      let is : g.id_of s.0.properties.qos ≡ n = s.3 in
      ap not (any_from (λ (r : Active). n == g.id_of r.properties.qos) (kept p g (filter t g.rules)) s.0 both (eq-eqb n (g.id_of s.0.properties.qos) (sym {a = g.id_of s.0.properties.qos} is))))

-- ---- all conditions
module _ (p : Setting) (j k : Journal) (lawful_j : Lawful p j) (lawful_k : Lawful p k) (alike : Alike p j k) where
  to_k : (r : Active) → Contains (now p j).rules r → Contains (now p k).rules r
  to_k r = (alike.rules r).0

  to_j : (r : Active) → Contains (now p k).rules r → Contains (now p j).rules r
  to_j r = (alike.rules r).1

  abbrev stay : List ℕ → Active → Bool
  stay name r = not (is_named name r)

  abbrev name_of : Active → List ℕ
  name_of r = r.properties.name

  bearers_same : (rule : Properties) → finds_no_bearer p (now p k) rule (without rule.name (now p k).rules) ≡ finds_no_bearer p (now p j) rule (without rule.name (now p j).rules)
  bearers_same rule =
      let g = lawful_bound p j lawful_j in
      let h = lawful_bound p k lawful_k in
      let t : Active → Bool = stay rule.name in
      ap₂ (λ a b. not a && b)
      (ap (λ b. same_qos rule.qos p.default_qos || b)
      (same_any (λ (r : Active). same_qos rule.qos r.properties.qos) (without rule.name (now p k).rules) (without rule.name (now p j).rules)
      (rest_to p (now p j) (now p k) g h t to_j) (rest_to p (now p k) (now p j) h g t to_k)))
      (same_none (free_id p (now p k) (without rule.name (now p k).rules)) (free_id p (now p j) (without rule.name (now p j).rules))
      (none_free p (now p j) (now p k) g h t to_j) (none_free p (now p k) (now p j) h g t to_k))

  sums_same : (w : Active → ℕ) (name : List ℕ) → sum_of w (without name (now p k).rules) ≡ sum_of w (without name (now p j).rules)
  sums_same w name =
      let g = lawful_bound p j lawful_j in
      let h = lawful_bound p k lawful_k in
      let less = fits name_of w (without name (now p k).rules) (without name (now p j).rules) (filter_once name_of (stay name) (now p k).rules (made_once p (tables k)))
      (rest_to p (now p j) (now p k) g h (stay name) to_j) in
      let more = fits name_of w (without name (now p j).rules) (without name (now p k).rules) (filter_once name_of (stay name) (now p j).rules (made_once p (tables j)))
      (rest_to p (now p k) (now p j) h g (stay name) to_k) in
      omega (arith, less, more)

  bindings_same : (rule : Properties) → bindings p (now p k) rule (without rule.name (now p k).rules) ≡ bindings p (now p j) rule (without rule.name (now p j).rules)
  bindings_same rule =
      let rest_k : List Active = without rule.name (now p k).rules in
      let rest_j : List Active = without rule.name (now p j).rules in
      let up : total_up rest_k ≡ total_up rest_j = up_is rest_k ∙ sums_same (λ r. rate_up r.properties.rates) rule.name ∙ sym (up_is rest_j) in
      let down : total_down rest_k ≡ total_down rest_j = down_is rest_k ∙ sums_same (λ r. rate_down r.properties.rates) rule.name ∙ sym (down_is rest_j) in
      ap (λ f. bind_refusals p.qcis p.capacity rule.qos rule.rates f (total_up rest_k) (total_down rest_k)) (bearers_same rule)
      ∙ ap₂ (bind_refusals p.qcis p.capacity rule.qos rule.rates (finds_no_bearer p (now p j) rule rest_j)) up down

  active_same : (name : List ℕ) → is_active p k name ≡ is_active p j name
  active_same name = same_any (is_named name) (now p k).rules (now p j).rules to_j to_k

  count_same : length (now p k).rules ≡ length (now p j).rules
  count_same =
      let less = no_longer name_of (now p k).rules (now p j).rules (made_once p (tables k)) to_j in
      let more = no_longer name_of (now p j).rules (now p k).rules (made_once p (tables j)) to_k in omega (arith, less, more)

  -- ---- keys
  abbrev Known : Option (List ℕ) → Type 0
  Known named = (key : List ℕ) → named ≡ Some key → (is_among key (slots p k) ≡ is_among key (slots p j)) × (finds_no_slot p j (Some key) ≡ false)

  clash_same : (level : Level) (named : Option (List ℕ)) → Known named → clashes p k level named ≡ clashes p j level named
  clash_same level None known = refl
  clash_same level (Some key) known =
      let same = (known key refl).0 in
      elim (cases_Bool (is_among key (slots p k))) [
        | inl there ↦ ap₂ (λ a (l : Level). a && not (same_level level l)) same (alike.levels key there)
        | inr absent ↦ rw (absent, sym same ∙ absent) refl
      ]

  few_slots_k : length (slots p k) ≤ length (slots p j)
  few_slots_k =
      no_longer (λ (x : List ℕ). x) (slots p k) (slots p j) (made_slots_once p (tables k))
      (λ key there. among_to key (slots p j) (alike.slots_had key (among_from key (slots p k) there)))

  slot_same : (named : Option (List ℕ)) → Known named → finds_no_slot p k named ≡ finds_no_slot p j named
  slot_same None known = refl
  slot_same (Some key) known =
      let same = (known key refl).0 in
      let finds = (known key refl).1 in
      elim (cases_Bool (is_among key (slots p j))) [
        | inl there ↦ rw (there, same ∙ there) refl
        | inr absent ↦
            let room : nat_le most_keys (length (slots p j)) ≡ false = rw absent at finds in
            let less = leb-false most_keys (length (slots p j)) room in
            rw (absent, same ∙ absent, room) (lt-leb most_keys (length (slots p k)) (omega (arith, less, few_slots_k)))
      ]

  becoming_same : (rule : Properties) → Known rule.key → becoming_active p k rule ≡ becoming_active p j rule
  becoming_same rule known =
      ap₂ (λ b cs. (b, refusal.RulesFull) ∷ cs) (ap₂ (λ a n. not a && nat_le most_rules n) (active_same rule.name) count_same)
      (ap₂ (λ b cs. (b, refusal.LevelClash) ∷ cs) (clash_same Rule rule.key known)
      (ap₂ (λ b cs. (b, refusal.KeysFull) ∷ cs) (slot_same rule.key known) (bindings_same rule)))

  becoming_if_same : (o : Option Offer) → Known (key_offered o) → becoming_active_if p k o ≡ becoming_active_if p j o
  becoming_if_same None known = refl
  becoming_if_same (Some o) known = becoming_same o.properties known

  -- ---- commands
  module _ (number : ℕ → ℕ) (renumbers : Renumbers p j k number) (terminated : was_terminated k ≡ was_terminated j) (workers : length (attached k) ≡ length (attached j))
      (room_j : limited_count j < p.commands) (room_k : limited_count k < p.commands) where
    default_same : (n : ℕ) → (number n == default_id) ≡ (n == default_id)
    default_same n =
        let has : has_bearer p (now p j).rules p.default_qos ≡ true =
        or_left (same_qos p.default_qos p.default_qos) (list_any (λ (r : Active). same_qos p.default_qos r.properties.qos) (now p j).rules) (same_qos_self p.default_qos) in
        let five_k = (lawful_bound p k lawful_k).five p.default_qos (same_qos_self p.default_qos) in
        let five_j = (lawful_bound p j lawful_j).five p.default_qos (same_qos_self p.default_qos) in
        turned (number n) default_id ∙ ap (λ m. m == number n) (sym five_k) ∙ renumbers p.default_qos has n ∙ ap (λ m. m == n) five_j ∙ turned default_id n
      where
        turned : (a b : ℕ) → (a == b) ≡ (b == a)
        turned a b =
            elim (cases_Bool (b == a)) [
              | inl is ↦ eq-eqb a b (sym (eqb-true b a is)) ∙ sym is
              | inr isnt ↦ false_from_ne_true (a == b) (λ same. contrary (b == a) (eq-eqb b a (sym (eqb-true a b same))) isnt) ∙ sym isnt
            ]

    on_bearer_same : (n : ℕ) → is_bearer p k (number n) ≡ is_bearer p j n
    on_bearer_same n =
        elim (cases_Bool (is_bearer p j n)) [
          | inl is ↦
              let w = some_there (λ (r : Active). (now p j).id_of r.properties.qos == n) (now p j).rules is in
              any_from (λ (r : Active). (now p k).id_of r.properties.qos == number n) (now p k).rules w.0 (to_k w.0 w.1)
              (renumbers w.0.properties.qos (has_own p (now p j).rules w.0 w.1) n ∙ w.2)
              ∙ sym is
          | inr isnt ↦
              false_from_ne_true (is_bearer p k (number n)) (λ used.
              let w = some_there (λ (r : Active). (now p k).id_of r.properties.qos == number n) (now p k).rules used in
              let there = to_j w.0 w.1 in
              contrary (is_bearer p j n) (any_from (λ (r : Active). (now p j).id_of r.properties.qos == n) (now p j).rules w.0 there
              (sym (renumbers w.0.properties.qos (has_own p (now p j).rules w.0 there) n) ∙ w.2)) isnt)
              ∙ sym isnt
        ]

    end_same : end_refusals k ≡ end_refusals j
    end_same = ap₂ (λ a b. (a, refusal.Terminated) ∷ (b, refusal.Closed) ∷ []) terminated alike.closed

    common_same : common_refusals p k ≡ common_refusals p j
    common_same =
        ap₂ (λ cs b. cs ++ (b, refusal.CommandsFull) ∷ []) end_same
        (lt-leb p.commands (limited_count k) room_k ∙ sym (lt-leb p.commands (limited_count j) room_j))

    first_same : (c : Command) → first_refusals p k (image number c) ≡ first_refusals p j c
    first_same Close = end_same
    first_same Terminate = ap (λ a. (a, refusal.Terminated) ∷ []) terminated
    first_same (Install rule) = common_same
    first_same (Activate name) = common_same
    first_same (Remove name) = common_same
    first_same (Monitor key amount level) = common_same
    first_same (Stop key) = common_same
    first_same (ReportNow key) = common_same
    first_same (Triggers set) = common_same
    first_same (Notice kind value) = common_same
    first_same (LoseBearer id) = common_same

    own_same : (c : Command) → Known (key_asked p c) → own_refusals p k (image number c) ≡ own_refusals p j c
    own_same (Install rule) known = ap (λ cs. (is_some (offer_named p rule.properties.name), refusal.NameIsPredefined) ∷ cs) (becoming_same rule.properties known)
    own_same (Activate name) known =
        ap (λ cs. (is_none (offer_named p name), refusal.UnknownRule) ∷ cs)
        (ap₂ (λ (b : Bool) (cs : Conditions Refusal). if b then [] else cs) (active_same name) (becoming_if_same (offer_named p name) known))
    own_same (Remove name) known = ap (λ b. (not b, refusal.UnknownRule) ∷ []) (active_same name)
    own_same (Monitor key amount level) known =
        ap₂ (λ a b. (amount == 0, refusal.ZeroGrant) ∷ (a, refusal.LevelClash) ∷ (b, refusal.KeysFull) ∷ []) (clash_same level (Some key) known) (slot_same (Some key) known)
    own_same (Stop key) known = ap (λ b. (not b, refusal.UnknownKey) ∷ []) (alike.on key)
    own_same (ReportNow key) known = ap (λ b. (not b, refusal.UnknownKey) ∷ []) (known key refl).0
    own_same (Triggers set) known = refl
    own_same (Notice kind value) known = refl
    own_same Close known = refl
    own_same (LoseBearer id) known =
        ap₂ (λ a b. (not a && not b, refusal.UnknownBearer) ∷ (a, refusal.DefaultBearer) ∷ []) (default_same id.0) (on_bearer_same id.0)
    own_same Terminate known = ap (λ n. (nat_lt 0 n, refusal.WorkersAttached n) ∷ []) workers

    pub refuse_alike : (c : Command) → KnowsAlike p j k (key_asked p c) → refusals p k (image number c) ≡ refusals p j c
    refuse_alike c known = ap₂ (λ xs ys. xs ++ ys) (first_same c) (own_same c known)
