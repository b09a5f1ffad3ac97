-- Rules become active again.
use Rattle.std.proofs.Common.{◌≡◌, ◌∙◌, ◌≤◌, ◌<◌, ◌+◌, ◌&&◌, ℕ, suc, Bool, true, false, not, List, [], ◌∷◌, ◌++◌, Contains, Some, None, length, length-append, map, nat_le, nat_lt, refl, sym, ap, subst, arith, inl, inr}
use Rattle.std.specs.Prelude.{Option, if◌then◌else◌, is_none, is_some}
use Rattle.std.specs.List.{list_any}
use Rattle.std.specs.Option.{option_map}
use Rattle.std.proofs.lemmas.Bool.{and_right, cases_Bool, le-ltb, lt-leb}
use Rattle.std.proofs.lemmas.List.{append-nil, append_assoc}
use Rattle.std.proofs.lemmas.List.Elements.{Contains-append_left, Contains-append_right, Contains-push_cases}
use Rattle.pcef_base.proofs.Found.{any_from}
use Rattle.pcef_base.proofs.Tests.{contrary}
use Rattle.pcef_rule.specs.declared.rule.Properties.{Properties}
use Rattle.pcef_rule.specs.QciKinds.{kind_of}
use Rattle.pcef_catalog.specs.declared.listing.Offer.{Offer}
use Rattle.pcef_model.specs.declared.answer.Refusal.{Refusal}
use Rattle.pcef_model.specs.declared.answer.Refusal.TheVariants as refusal
use Rattle.pcef_model.specs.declared.command.Command.{Command}
use Rattle.pcef_model.specs.declared.command.Command.TheVariants.{Activate, Close, Install, LoseBearer, Monitor, Notice, Remove, ReportNow, Stop, Terminate, Triggers}
use Rattle.pcef_model.specs.declared.entry.Entry.TheVariants as entry
use Rattle.pcef_model.specs.declared.level.Level.TheVariants.{Rule, Session}
use Rattle.pcef_model.specs.ActiveRules.{Active, Detection, by_filters, by_shape, has_key, is_key, is_named, predefined, put, without}
use Rattle.pcef_model.specs.Bearers.{is_gbr, is_non_gbr, rate_down, rate_up, sum_down, sum_up}
use Rattle.pcef_model.specs.Commands.{activated, at_session_level, is_among, key_named}
use Rattle.pcef_model.specs.Entries.{Journal}
use Rattle.pcef_model.specs.Generations.{add_if_some, rules_after, slots_of}
use Rattle.pcef_model.specs.Journals.{grant, level_of, now, slots, subscribed, tables}
use Rattle.pcef_model.specs.Lawful.{Lawful, by_command}
use Rattle.pcef_model.specs.Outcomes.{changes}
use Rattle.pcef_model.specs.Refusals.{Conditions, becoming_active, becoming_active_if, bindings, clashes, common_refusals, finds_no_bearer, finds_no_slot, first_of, is_active, limited_count, refusals, total_down, total_up, was_closed, was_terminated}
use Rattle.pcef_model.specs.Reports.{is_reached_by, plan}
use Rattle.pcef_model.specs.Setting.{Setting, most_rules, offer_named}
use Rattle.pcef_model.proofs.BearerIds.{lawful_bound}
use Rattle.pcef_model.proofs.BoundRules.{NamesOnce}
use Rattle.pcef_model.proofs.Capacity.{lawful_within}
use Rattle.pcef_model.proofs.Decisive.{made_once}
use Rattle.pcef_model.proofs.Levels.{session_keys_have_no_rule, session_now}
use Rattle.pcef_model.proofs.Members.{first_there}
use Rattle.pcef_model.proofs.Names.{without_none}
use Rattle.pcef_model.proofs.RulesAfter.{makes_active, rules_put}
use Rattle.pcef_model.proofs.RulesNow.{rules_now}
use Rattle.pcef_model.proofs.Sameness.{same_name_self}
use Rattle.pcef_model.proofs.SlotsGrow.{HasSlot, rules_have_slots}
use Rattle.pcef_renewal.specs.Accepting.{AreTaken, IsTaken, entered}
use Rattle.pcef_renewal.specs.Renewal.{rule_again, rule_again_by}
use Rattle.pcef_renewal.proofs.ActiveFacts.{IsNamedFor, few_rules, may_return}
use Rattle.pcef_renewal.proofs.Fitting.{fits, no_longer, once_next, once_push, sum_of}
use Rattle.pcef_renewal.proofs.FreeBearers.{finds_bearer}
use Rattle.pcef_renewal.proofs.Playing.{Playing, both_none, common_none, finds_slot, next_none, slots_after_key}
use Rattle.pcef_renewal.proofs.Quiet.{NoneReached, none_ends, quiet_by}

-- ---- a rule that is new comes last
pub put_last : (new : Active) (rules : List Active) → list_any (is_named new.properties.name) rules ≡ false → put new rules ≡ rules ++ new ∷ []
put_last new [] none = refl
put_last new (r ∷ rules) none =
    elim (cases_Bool (is_named new.properties.name r)) [
      | inl is ↦ contrary (list_any (is_named new.properties.name) (r ∷ rules)) (rw is refl) none
      | inr isnt ↦ let rest : list_any (is_named new.properties.name) rules ≡ false = rw isnt at none in rw isnt (ap (λ rs. r ∷ rs) (put_last new rules rest))
    ]

any_more : {X : Type 0} (t : X → Bool) (xs ys : List X) → list_any t xs ≡ true → list_any t (xs ++ ys) ≡ true
any_more t [] ys some = absurd cc
any_more t (x ∷ xs) ys some =
    elim (cases_Bool (t x)) [ inl is ↦ rw is refl | inr isnt ↦ rw isnt (any_more t xs ys (rw isnt at some)) ]

-- ---- rates
pub up_is : (rules : List Active) → total_up rules ≡ sum_of (λ (r : Active). rate_up r.properties.rates) rules
unfolding sum_of sum_up
up_is [] = refl
up_is (r ∷ rules) = ap (λ n. rate_up r.properties.rates + n) (up_is rules)

pub down_is : (rules : List Active) → total_down rules ≡ sum_of (λ (r : Active). rate_down r.properties.rates) rules
unfolding sum_of sum_down
down_is [] = refl
down_is (r ∷ rules) = ap (λ n. rate_down r.properties.rates + n) (down_is rules)

sum_push : {X : Type 0} (w : X → ℕ) (xs : List X) (x : X) → sum_of w (xs ++ x ∷ []) ≡ sum_of w xs + w x
unfolding sum_of
sum_push w [] x = omega arith
sum_push w (y ∷ xs) x = let rest = sum_push w xs x in omega (arith, rest)

-- ---- a command that makes a rule active
pub record Plain (p : Setting) (k : Journal) (c : Command) : Type 0 where
  pub open_yet : was_closed (entry.Command c ∷ k) ≡ was_closed k
  pub goes_on : was_terminated (entry.Command c ∷ k) ≡ was_terminated k
  pub grants : (key : List ℕ) → grant (entry.Command c ∷ k) key ≡ grant k key
  pub events : subscribed (entry.Command c ∷ k) ≡ subscribed k
  pub count : limited_count (entry.Command c ∷ k) ≡ suc (limited_count k)
  pub session : (keys : List (List ℕ)) → at_session_level c keys ≡ keys
  pub slots_are : slots p (entry.Command c ∷ k) ≡ add_if_some (key_named p c) (slots p k)

pub makes_plain : (p : Setting) (k : Journal) (c : Command) (r : Active) → activated p c ≡ Some r → Plain p k c
unfolding grant limited_count slots_of subscribed
makes_plain p k (Install rule) r is =
    record { open_yet = refl; goes_on = refl; grants = λ key. refl; events = refl; count = omega arith; session = λ keys. refl; slots_are = refl }
makes_plain p k (Activate name) r is =
    record { open_yet = refl; goes_on = refl; grants = λ key. refl; events = refl; count = omega arith; session = λ keys. refl; slots_are = refl }
makes_plain p k (Remove name) r is = absurd cc
makes_plain p k (Monitor key amount level) r is = absurd cc
makes_plain p k (Stop key) r is = absurd cc
makes_plain p k (ReportNow key) r is = absurd cc
makes_plain p k (Triggers set) r is = absurd cc
makes_plain p k (Notice kind value) r is = absurd cc
makes_plain p k (LoseBearer id) r is = absurd cc
makes_plain p k Close r is = absurd cc
makes_plain p k Terminate r is = absurd cc

-- ---- one rule
abbrev name_of : Active → List ℕ
name_of r = r.properties.name

module _ (p : Setting) (j k : Journal) (n : ℕ) (playing : Playing p j k n) (lawful : Lawful p j) (room : n < p.commands)
    (part : (s : Active) → Contains (now p k).rules s → Contains (now p j).rules s)
    (r : Active) (there : Contains (now p j).rules r) (new : list_any (is_named r.properties.name) (now p k).rules ≡ false) where
  once_with : NamesOnce ((now p k).rules ++ r ∷ [])
  once_with = once_push name_of (now p k).rules r (made_once p (tables k)) new

  all_there : (s : Active) → Contains ((now p k).rules ++ r ∷ []) s → Contains (now p j).rules s
  all_there s one =
      elim (Contains-push_cases (now p k).rules r s one) [
        | inl old ↦ part s old
        | inr same ↦ subst (λ (x : Active). Contains (now p j).rules x) same there
      ]

  few_before : length (now p k).rules < 64
  few_before =
      let few = no_longer name_of ((now p k).rules ++ r ∷ []) (now p j).rules once_with all_there in
      omega (arith, few, few_rules p j lawful, length-append (now p k).rules (r ∷ []))

  up_fits : total_up (now p k).rules + rate_up r.properties.rates ≤ p.capacity.up
  up_fits =
      let w : Active → ℕ = λ s. rate_up s.properties.rates in
      let few = fits name_of w ((now p k).rules ++ r ∷ []) (now p j).rules once_with all_there in
      omega (arith, few, sum_push w (now p k).rules r, up_is (now p k).rules, up_is (now p j).rules, (lawful_within p j lawful).up)

  down_fits : total_down (now p k).rules + rate_down r.properties.rates ≤ p.capacity.down
  down_fits =
      let w : Active → ℕ = λ s. rate_down s.properties.rates in
      let few = fits name_of w ((now p k).rules ++ r ∷ []) (now p j).rules once_with all_there in
      omega (arith, few, sum_push w (now p k).rules r, down_is (now p k).rules, down_is (now p j).rules, (lawful_within p j lawful).down)

  binds_again : first_of (bindings p (now p k) r.properties (without r.properties.name (now p k).rules)) ≡ None
  binds_again =
      let may = may_return p j lawful r there in
      let bearer = finds_bearer p (now p j) (now p k) (lawful_bound p j lawful) (lawful_bound p k playing.lawful) part r there in
      let over_down : Conditions Refusal = (nat_lt p.capacity.down (total_down (now p k).rules + rate_down r.properties.rates), refusal.OverCapacityDown) ∷ [] in
      let over_up : Conditions Refusal = (nat_lt p.capacity.up (total_up (now p k).rules + rate_up r.properties.rates), refusal.OverCapacityUp) ∷ over_down in
      let too_many : Conditions Refusal = (finds_no_bearer p (now p k) r.properties (now p k).rules, refusal.TooManyBearers) ∷ over_up in
      let unwanted : Conditions Refusal = (is_non_gbr (kind_of p.qcis r.properties.qos.qci.0) && is_some r.properties.rates, refusal.RatesNotWanted) ∷ too_many in
      let missing : Conditions Refusal = (is_gbr (kind_of p.qcis r.properties.qos.qci.0) && is_none r.properties.rates, refusal.RatesMissing) ∷ unwanted in
      let all : first_of (bindings p (now p k) r.properties (now p k).rules) ≡ None =
      next_none _ refusal.UnknownQci missing may.qci
      (next_none _ refusal.RatesMissing unwanted may.missing
      (next_none _ refusal.RatesNotWanted too_many may.unwanted
      (next_none _ refusal.TooManyBearers over_up bearer
      (next_none _ refusal.OverCapacityUp over_down (le-ltb p.capacity.up (total_up (now p k).rules + rate_up r.properties.rates) up_fits)
      (next_none _ refusal.OverCapacityDown [] (le-ltb p.capacity.down (total_down (now p k).rules + rate_down r.properties.rates) down_fits) refl))))) in
      subst (λ (others : List Active). first_of (bindings p (now p k) r.properties others) ≡ None) (sym (without_none name_of r.properties.name (now p k).rules new)) all

  -- its key
  has_slot : HasSlot (slots p j) r.properties.key
  has_slot = rules_have_slots p (tables j) r there

  clash_none : (key : Option (List ℕ)) → r.properties.key ≡ key → clashes p k Rule key ≡ false
  clash_none None is = refl
  clash_none (Some key) is =
      elim (cases_Bool (is_among key (now p k).session)) [
        | inr rule_level ↦ rw rule_level (and_right (is_among key (slots p k)) false refl)
        | inl session_level ↦
            let before = playing.session key session_level in
            let level : level_of (now p j) key ≡ Session = rw before refl in
            let own : is_key key r.properties.key ≡ true = ap (is_key key) is ∙ same_name_self key in
            contrary (has_key key (now p j).rules) (any_from (λ (s : Active). is_key key s.properties.key) (now p j).rules r there own) (session_keys_have_no_rule p j lawful key level)
      ]

  slot_found : (key : Option (List ℕ)) → HasSlot (slots p j) key → finds_no_slot p k key ≡ false
  slot_found None has = refl
  slot_found (Some key) has = finds_slot p j k n playing lawful key has

  becomes_again : first_of (becoming_active p k r.properties) ≡ None
  becomes_again =
      let binds : Conditions Refusal = bindings p (now p k) r.properties (without r.properties.name (now p k).rules) in
      let slot : Conditions Refusal = (finds_no_slot p k r.properties.key, refusal.KeysFull) ∷ binds in
      next_none (not (is_active p k r.properties.name) && nat_le most_rules (length (now p k).rules)) refusal.RulesFull ((clashes p k Rule r.properties.key, refusal.LevelClash) ∷ slot)
      (and_right _ _ (lt-leb most_rules (length (now p k).rules) few_before))
      (next_none (clashes p k Rule r.properties.key) refusal.LevelClash slot (clash_none r.properties.key refl)
      (next_none (finds_no_slot p k r.properties.key) refusal.KeysFull binds (slot_found r.properties.key has_slot) binds_again))

  -- ---- the command
  abbrev Accepts : Command → Type 0
  Accepts c = (first_of (refusals p k c) ≡ None) × (changes p k c ≡ true)

  accepts_by : (properties : Properties) (detection : Detection) → properties ≡ r.properties → IsNamedFor p properties.name detection →
      activated p (rule_again_by properties detection) ≡ Some (record { properties = properties; detection = detection }) → Accepts (rule_again_by properties detection)
  accepts_by properties (by_filters filters) is named returns =
      let becomes : first_of (becoming_active p k properties) ≡ None = subst (λ (x : Properties). first_of (becoming_active p k x) ≡ None) (sym is) becomes_again in (
        both_none (common_refusals p k) ((is_some (offer_named p properties.name), refusal.NameIsPredefined) ∷ becoming_active p k properties) (common_none p j k n playing room)
            (next_none (is_some (offer_named p properties.name)) refusal.NameIsPredefined (becoming_active p k properties) named becomes),
        refl,
      )
  accepts_by properties (by_shape shape) is named returns = from (offer_named p properties.name) refl returns
    where
      absent : is_active p k properties.name ≡ false
      absent = ap (is_active p k) (ap (λ (x : Properties). x.name) is) ∙ new

      own_none : (o : Option Offer) → option_map predefined o ≡ Some (record { properties = properties; detection = by_shape shape }) → first_of (becoming_active_if p k o) ≡ None
      own_none None made = absurd cc
      own_none (Some o) made =
          let same : predefined o ≡ record { properties = properties; detection = by_shape shape } = cc in
          let props : o.properties ≡ r.properties = ap (λ (s : Active). s.properties) same ∙ is in
          subst (λ (x : Properties). first_of (becoming_active p k x) ≡ None) (sym props) becomes_again

      from : (o : Option Offer) → offer_named p properties.name ≡ o → option_map predefined (offer_named p properties.name) ≡ Some (record { properties = properties; detection = by_shape shape }) →
          Accepts (Activate properties.name)
      from o offer made =
          let rest : Conditions Refusal = if is_active p k properties.name then [] else becoming_active_if p k (offer_named p properties.name) in
          let rest_none : first_of rest ≡ None = rw absent (own_none (offer_named p properties.name) made) in (
            both_none (common_refusals p k) ((is_none (offer_named p properties.name), refusal.UnknownRule) ∷ rest) (common_none p j k n playing room)
                (next_none (is_none (offer_named p properties.name)) refusal.UnknownRule rest named rest_none),
            rw absent refl,
          )

  keeps_keys : (c : Command) → activated p c ≡ Some r → (key : List ℕ) → has_key key (now p k).rules ≡ true → has_key key (rules_after p (now p k) c) ≡ true
  keeps_keys c is key had =
      ap (has_key key) (rules_put p (now p k) c r is ∙ put_last r (now p k).rules new) ∙ any_more (λ (s : Active). is_key key s.properties.key) (now p k).rules (r ∷ []) had

  planned_by : (properties : Properties) (detection : Detection) → activated p (rule_again_by properties detection) ≡ Some r → plan p k (rule_again_by properties detection) ≡ []
  planned_by properties (by_filters filters) is =
      ap (λ es. es ++ []) (none_ends p k (Install (record { properties = properties; filters = filters })) (keeps_keys (Install (record { properties = properties; filters = filters })) is))
  planned_by properties (by_shape shape) is = ap (λ es. es ++ []) (none_ends p k (Activate properties.name) (keeps_keys (Activate properties.name) is))

  on_by : (c : Command) → Accepts c → activated p c ≡ Some r → plan p k c ≡ [] → IsTaken p k c × Playing p j (entry.Command c ∷ k) (suc n)
  on_by c accepts makes planned =
      let plain = makes_plain p k c r makes in
      let far : NoneReached (entry.Command c ∷ k) = (λ key. ap (λ g. is_reached_by g 0) (plain.grants key) ∙ playing.far key) in
      let quiet = quiet_by p k c playing.no_rows far planned in
      let slots_are : slots p (entry.Command c ∷ k) ≡ add_if_some r.properties.key (slots p k) =
      plain.slots_are ∙ ap (λ key. add_if_some key (slots p k)) (makes_active p c r makes).key_is in (
        record { accepted = accepts.0; changing = accepts.1; quiet = quiet },
        record {
          lawful = subst (Lawful p) quiet (by_command k c playing.lawful accepts.0 accepts.1);
          no_rows = playing.no_rows;
          open_yet = plain.open_yet ∙ playing.open_yet;
          goes_on = plain.goes_on ∙ playing.goes_on;
          far = far;
          count = plain.count ∙ ap (λ m. suc m) playing.count;
          slots_there = λ key one. slots_after_key p j k n playing r.properties.key has_slot key (ap (is_among key) (sym slots_are) ∙ one);
          session = λ key one. playing.session key (ap (is_among key) (sym (session_now p k c ∙ plain.session (now p k).session)) ∙ one);
        },
      )

  pub take_rule : IsTaken p k (rule_again r) × Playing p j (entry.Command (rule_again r) ∷ k) (suc n)
  take_rule =
      let may = may_return p j lawful r there in
      on_by (rule_again r) (accepts_by r.properties r.detection refl may.named may.returns) may.returns (planned_by r.properties r.detection may.returns)

-- ---- all rules
pub record RulesTaken (p : Setting) (j k : Journal) (n : ℕ) (cs : List Command) : Type 0 where
  pub taken : AreTaken p k cs
  pub playing : Playing p j (entered cs k) n

pub take_rules : (p : Setting) (j : Journal) → Lawful p j → (n : ℕ) (done rest : List Active) (k : Journal) → Playing p j k (n + length done) → (now p k).rules ≡ done →
    NamesOnce (done ++ rest) → ((r : Active) → Contains (done ++ rest) r → Contains (now p j).rules r) → n + length (done ++ rest) ≤ p.commands →
    RulesTaken p j k (n + length (done ++ rest)) (map rule_again rest)
take_rules p j lawful n done [] k playing rules_are once within room =
    record { taken = tt; playing = subst (λ (rs : List Active). Playing p j k (n + length rs)) (sym (append-nil done)) playing }
take_rules p j lawful n done (r ∷ rest) k playing rules_are once within room =
    let whole : (done ++ r ∷ []) ++ rest ≡ done ++ r ∷ rest = append_assoc done (r ∷ []) rest in
    let new : list_any (is_named r.properties.name) (now p k).rules ≡ false = ap (list_any (is_named r.properties.name)) rules_are ∙ once_next name_of done r rest once in
    let there = within r (Contains-append_right done (r ∷ rest) r (first_there r rest)) in
    let part : (s : Active) → Contains (now p k).rules s → Contains (now p j).rules s =
    (λ s one. within s (Contains-append_left done (r ∷ rest) s (subst (λ (rs : List Active). Contains rs s) rules_are one))) in
    let less : n + length done < p.commands = (let size = length-append done (r ∷ rest) in omega (arith, room, size)) in
    let one = take_rule p j k (n + length done) playing lawful less part r there new in
    let more : n + length (done ++ r ∷ []) ≡ suc (n + length done) = (let grown = length-append done (r ∷ []) in omega (arith, grown)) in
    let later =
    take_rules p j lawful n (done ++ r ∷ []) rest (entry.Command (rule_again r) ∷ k) (subst (Playing p j (entry.Command (rule_again r) ∷ k)) (sym more) one.1)
    (rules_now p k (rule_again r) ∙ rules_put p (now p k) (rule_again r) r (may_return p j lawful r there).returns ∙ put_last r (now p k).rules new ∙ ap (λ rs. rs ++ r ∷ []) rules_are)
    (subst NamesOnce (sym whole) once) (λ s one. within s (subst (λ (rs : List Active). Contains rs s) whole one))
    (let same = ap length whole in omega (arith, same, room)) in
    record {
      taken = (one.0, later.taken);
      playing = subst (λ (rs : List Active). Playing p j (entered (map rule_again rest) (entry.Command (rule_again r) ∷ k)) (n + length rs)) whole later.playing;
    }
