-- Commands leave the grants of two sessions alike.
use Rattle.std.proofs.Common.{◌≡◌, ◌∙◌, ◌≤◌, ◌<◌, ◌+◌, ◌-◌, ◌==◌, ◌&&◌, ◌||◌, ◌++◌, ℕ, Bool, true, false, not, List, [], ◌∷◌, Some, None, filter, map, refl, sym, ap, ap₂, subst, arith, inl, inr}
use Rattle.std.specs.Prelude.{Option, if◌then◌else◌}
use Rattle.std.specs.List.{list_any}
use Rattle.std.proofs.lemmas.Bool.{and_right, cases_Bool}
use Rattle.pcef_base.proofs.Tests.{contrary}
use Rattle.pcef_model.specs.declared.command.Command.{Command}
use Rattle.pcef_model.specs.declared.command.Command.TheVariants.{Install, Activate, Remove, Monitor, Stop, ReportNow, Triggers, Notice, LoseBearer, Close, Terminate}
use Rattle.pcef_model.specs.declared.entry.Entry.TheVariants as entry
use Rattle.pcef_model.specs.declared.level.Level.{Level}
use Rattle.pcef_model.specs.declared.pending_report.PendingReport.{PendingReport}
use Rattle.pcef_model.specs.declared.pending_report.PendingReport.TheVariants.{Access, Inactive, Usage}
use Rattle.pcef_model.specs.declared.report.Cause.TheVariants.{Requested, RulesGone}
use Rattle.pcef_model.specs.declared.trigger.TriggerSet.{TriggerSet}
use Rattle.pcef_model.specs.ActiveRules.{has_key, is_key}
use Rattle.pcef_model.specs.Commands.{is_among, switched}
use Rattle.pcef_model.specs.Entries.{Journal}
use Rattle.pcef_model.specs.Generations.{Generation, rules_after}
use Rattle.pcef_model.specs.Journals.{counted, grant, now, report_count, reported, slots, subscribed, unreported}
use Rattle.pcef_model.specs.Lawful.{Lawful}
use Rattle.pcef_model.specs.Outcomes.{changes}
use Rattle.pcef_model.specs.Refusals.{first_of, refusals}
use Rattle.pcef_model.specs.Reports.{after_command, body_of, inactive, is_reached_by, is_subscribed, keys_ended, in_order, noticed_by, plan, requested, with_reports}
use Rattle.pcef_model.specs.Setting.{Setting, same_name}
use Rattle.pcef_model.proofs.Exactness.{lawful_exact}
use Rattle.pcef_model.proofs.Growth.{counted_after_command}
use Rattle.pcef_model.proofs.Levels.{among_add}
use Rattle.pcef_model.proofs.Reports.{reported_after_command, tell_counted, tell_now, tell_subscribed}
use Rattle.pcef_model.proofs.RulesNow.{now_after_other}
use Rattle.pcef_model.proofs.Sameness.{same_name_is, same_name_of, same_name_self}
use Rattle.pcef_renewal.specs.Alike.{Alike, Renumbers, image}
use Rattle.pcef_renewal.specs.Counting.{EvenFor, ReachAlike, key_granted}
use Rattle.pcef_renewal.specs.Likeness.{ReachesAlike}
use Rattle.pcef_renewal.specs.Renewal.{out_of_reach}
use Rattle.pcef_renewal.proofs.Counting.{on_and, thresholds_alike}
use Rattle.pcef_renewal.proofs.Staying.{among_filter, entry_alike, on_is, same_of, still}

-- ---- reports of other keys
abbrev names : List ℕ → PendingReport → Bool
names key (Usage k cause) = same_name key k
names key t = false

any_both : {X : Type 0} (t : X → Bool) (xs ys : List X) → list_any t xs ≡ false → list_any t ys ≡ false → list_any t (xs ++ ys) ≡ false
any_both t [] ys one other = other
any_both t (x ∷ xs) ys one other =
    elim (cases_Bool (t x)) [
      | inl is ↦ absurd (let e : true ≡ false = rw is at one in cc)
      | inr isnt ↦ rw isnt (any_both t xs ys (rw isnt at one) other)
    ]

abbrev told : Setting → Journal → PendingReport → Journal
told p j t = entry.Report (record { number = report_count j; body = body_of p j t }) ∷ j

one_left : (p : Setting) (t : PendingReport) (j : Journal) (key : List ℕ) → names key t ≡ false → (grant (told p j t) key ≡ grant j key) × (reported (told p j t) key ≡ reported j key)
unfolding grant reported
one_left p (Usage k cause) j key other = (rw other refl, rw other (omega arith))
one_left p (Inactive rule) j key other = (refl, omega arith)
one_left p (Access kind value) j key other = (refl, omega arith)

all_left : (p : Setting) (ts : List PendingReport) (j : Journal) (key : List ℕ) → list_any (names key) ts ≡ false →
    (grant (with_reports p ts j) key ≡ grant j key) × (reported (with_reports p ts j) key ≡ reported j key)
unfolding with_reports
all_left p [] j key none = (refl, refl)
all_left p (t ∷ ts) j key none =
    elim (cases_Bool (names key t)) [
      | inl is ↦ absurd (let e : true ≡ false = rw is at none in cc)
      | inr isnt ↦
          let own = one_left p t j key isnt in
          let rest = all_left p ts (told p j t) key (rw isnt at none) in
          (rest.0 ∙ own.0, rest.1 ∙ own.1)
    ]

-- ---- what a command reports
inactive_free : (g : Generation) (c : Command) (key : List ℕ) → list_any (names key) (inactive g c) ≡ false
inactive_free g (LoseBearer id) key = none (in_order (map (λ r. r.properties.name) (filter (λ r. g.id_of r.properties.qos == id.0) g.rules)))
  where
    none : (ns : List (List ℕ)) → list_any (names key) (map Inactive ns) ≡ false
    none [] = refl
    none (n ∷ ns) = none ns
inactive_free g (Install rule) key = refl
inactive_free g (Activate name) key = refl
inactive_free g (Remove name) key = refl
inactive_free g (Monitor l amount level) key = refl
inactive_free g (Stop l) key = refl
inactive_free g (ReportNow l) key = refl
inactive_free g (Triggers set) key = refl
inactive_free g (Notice kind value) key = refl
inactive_free g Close key = refl
inactive_free g Terminate key = refl

named_usage : (key : List ℕ) (keys : List (List ℕ)) → list_any (names key) (map (λ k. Usage k RulesGone) keys) ≡ is_among key keys
named_usage key [] = refl
named_usage key (k ∷ keys) = ap (λ b. same_name key k || b) (named_usage key keys)

-- a key that stays on isn't reported as ended
gone_free : (p : Setting) (j : Journal) (c : Command) (key : List ℕ) → still (now p j) (rules_after p (now p j) c) key ≡ true →
    list_any (names key) (map (λ k. Usage k RulesGone) (filter (λ k. is_among k (switched c (now p j).on) && has_key k (now p j).rules && not (has_key k (rules_after p (now p j) c))) (slots p j))) ≡ false
gone_free p j c key stays =
    let test : List ℕ → Bool = λ k. is_among k (switched c (now p j).on) && has_key k (now p j).rules && not (has_key k (rules_after p (now p j) c)) in
    named_usage key (filter test (slots p j)) ∙ among_filter test key (slots p j)
    ∙ and_right (is_among key (slots p j)) (test key) (from (is_among key (switched c (now p j).on)) (has_key key (now p j).rules) (has_key key (rules_after p (now p j) c)) stays)
  where
    from : (a b d : Bool) → (not b || d) ≡ true → (a && b && not d) ≡ false
    from true true true is = refl
    from true true false is = absurd cc
    from true false d is = refl
    from false b d is = refl

ended_free : (p : Setting) (j : Journal) (c : Command) (key : List ℕ) → is_among key (switched c (now p j).on) ≡ true → still (now p j) (rules_after p (now p j) c) key ≡ true →
    list_any (names key) (keys_ended p j c) ≡ false
ended_free p j Terminate key on stays = absurd cc
ended_free p j (Install rule) key on stays = gone_free p j (Install rule) key stays
ended_free p j (Activate name) key on stays = gone_free p j (Activate name) key stays
ended_free p j (Remove name) key on stays = gone_free p j (Remove name) key stays
ended_free p j (Monitor l amount level) key on stays = gone_free p j (Monitor l amount level) key stays
ended_free p j (Stop l) key on stays = gone_free p j (Stop l) key stays
ended_free p j (ReportNow l) key on stays = gone_free p j (ReportNow l) key stays
ended_free p j (Triggers set) key on stays = gone_free p j (Triggers set) key stays
ended_free p j (Notice kind value) key on stays = gone_free p j (Notice kind value) key stays
ended_free p j (LoseBearer id) key on stays = gone_free p j (LoseBearer id) key stays
ended_free p j Close key on stays = gone_free p j Close key stays

stopped_off : (l key : List ℕ) (on : List (List ℕ)) → is_among key (filter (λ k. not (same_name l k)) on) ≡ true → same_name key l ≡ false
stopped_off l key on there =
    elim (cases_Bool (same_name key l)) [
      | inr differs ↦ differs
      | inl same ↦
          let own : same_name l key ≡ true = same_name_of l key (sym (same_name_is key l same)) in
          let none : is_among key (filter (λ k. not (same_name l k)) on) ≡ false =
          among_filter (λ k. not (same_name l k)) key on ∙ and_right (is_among key on) (not (same_name l key)) (ap not own) in
          contrary (is_among key (filter (λ k. not (same_name l k)) on)) there none
    ]

requested_free : (c : Command) (key : List ℕ) (on : List (List ℕ)) → is_among key (switched c on) ≡ true → is_key key (key_granted c) ≡ false → list_any (names key) (requested c) ≡ false
requested_free (Stop l) key on there other = rw (stopped_off l key on there) refl
requested_free (ReportNow l) key on there other = rw other refl
requested_free (Install rule) key on there other = refl
requested_free (Activate name) key on there other = refl
requested_free (Remove name) key on there other = refl
requested_free (Monitor l amount level) key on there other = refl
requested_free (Triggers set) key on there other = refl
requested_free (Notice kind value) key on there other = refl
requested_free (LoseBearer id) key on there other = refl
requested_free Close key on there other = refl
requested_free Terminate key on there other = refl

noticed_free : (set : TriggerSet) (c : Command) (key : List ℕ) → list_any (names key) (noticed_by set c) ≡ false
noticed_free set (Notice kind value) key = from (is_subscribed set kind)
  where
    from : (b : Bool) → list_any (names key) (if b then Access kind value ∷ [] else []) ≡ false
    from true = refl
    from false = refl
noticed_free set (Install rule) key = refl
noticed_free set (Activate name) key = refl
noticed_free set (Remove name) key = refl
noticed_free set (Monitor l amount level) key = refl
noticed_free set (Stop l) key = refl
noticed_free set (ReportNow l) key = refl
noticed_free set (Triggers events) key = refl
noticed_free set (LoseBearer id) key = refl
noticed_free set Close key = refl
noticed_free set Terminate key = refl

-- ---- a key that stays on
on_before : (c : Command) (key : List ℕ) (on : List (List ℕ)) → is_among key (switched c on) ≡ true → is_key key (key_granted c) ≡ false → is_among key on ≡ true
on_before (Monitor l amount level) key on there other = from (is_among key on) (sym (among_add key l on ∙ ap (λ b. is_among key on || b) other) ∙ there)
  where
    from : (a : Bool) → (a || false) ≡ true → a ≡ true
    from true is = refl
    from false is = is
on_before (Stop l) key on there other = on_and (is_among key on) (not (same_name l key)) (sym (among_filter (λ k. not (same_name l k)) key on) ∙ there)
on_before Terminate key on there other = absurd cc
on_before (Install rule) key on there other = there
on_before (Activate name) key on there other = there
on_before (Remove name) key on there other = there
on_before (ReportNow l) key on there other = there
on_before (Triggers set) key on there other = there
on_before (Notice kind value) key on there other = there
on_before (LoseBearer id) key on there other = there
on_before Close key on there other = there

grant_before : (c : Command) (j : Journal) (key : List ℕ) → is_key key (key_granted c) ≡ false → grant (entry.Command c ∷ j) key ≡ grant j key
unfolding grant
grant_before (Monitor l amount level) j key other = rw other refl
grant_before (Install rule) j key other = refl
grant_before (Activate name) j key other = refl
grant_before (Remove name) j key other = refl
grant_before (Stop l) j key other = refl
grant_before (ReportNow l) j key other = refl
grant_before (Triggers set) j key other = refl
grant_before (Notice kind value) j key other = refl
grant_before (LoseBearer id) j key other = refl
grant_before Close j key other = refl
grant_before Terminate j key other = refl

and_other : (a b : Bool) → (a && b) ≡ true → b ≡ true
and_other true b is = is
and_other false b is = absurd cc

module _ (p : Setting) (j : Journal) (lawful : Lawful p j) (c : Command) (key : List ℕ) (on : is_among key (now p (entry.Command c ∷ j)).on ≡ true) where
  abbrev entered_one : Journal
  entered_one = entry.Command c ∷ j

  abbrev reported_by : Journal
  reported_by = with_reports p (plan p j c) entered_one

  abbrev both : Bool
  both = is_among key (switched c (now p j).on) && still (now p j) (rules_after p (now p j) c) key

  switched_on : is_among key (switched c (now p j).on) ≡ true
  switched_on = on_and (is_among key (switched c (now p j).on)) (still (now p j) (rules_after p (now p j) c) key) (sym (on_is p j c key) ∙ on)

  stays_on : still (now p j) (rules_after p (now p j) c) key ≡ true
  stays_on = and_other (is_among key (switched c (now p j).on)) (still (now p j) (rules_after p (now p j) c) key) (sym (on_is p j c key) ∙ on)

  counted_same : counted p reported_by key ≡ counted p j key
  counted_same = tell_counted p (plan p j c) entered_one key ∙ counted_after_command p j key c (lawful_exact p j lawful).known

  -- a command that doesn't ask for it reports nothing of it
  unasked : list_any (names key) (requested c) ≡ false → (grant reported_by key ≡ grant entered_one key) × (unreported p reported_by key ≡ unreported p j key)
  unasked none =
      let free : list_any (names key) (plan p j c) ≡ false =
      any_both (names key) (inactive (now p j) c) (keys_ended p j c ++ (requested c ++ noticed_by (subscribed j) c)) (inactive_free (now p j) c key)
      (any_both (names key) (keys_ended p j c) (requested c ++ noticed_by (subscribed j) c) (ended_free p j c key switched_on stays_on)
      (any_both (names key) (requested c) (noticed_by (subscribed j) c) none (noticed_free (subscribed j) c key))) in
      let left = all_left p (plan p j c) entered_one key free in
      (left.0, ap₂ (λ a b. a - b) counted_same (left.1 ∙ reported_after_command j key c))

  pub unchanged : is_key key (key_granted c) ≡ false → (is_among key (now p j).on ≡ true) × (grant reported_by key ≡ grant j key) × (unreported p reported_by key ≡ unreported p j key)
  unchanged other =
      let left = unasked (requested_free c key (now p j).on switched_on other) in
      (on_before c key (now p j).on switched_on other, left.0 ∙ grant_before c j key other, left.1)

-- ---- a key that is asked for
monitored : (p : Setting) (j : Journal) (lawful : Lawful p j) (l : List ℕ) (amount : ℕ) (level : Level) → is_among l (now p (entry.Command (Monitor l amount level) ∷ j)).on ≡ true →
    (grant (with_reports p (plan p j (Monitor l amount level)) (entry.Command (Monitor l amount level) ∷ j)) l ≡ Some amount)
    × (unreported p (with_reports p (plan p j (Monitor l amount level)) (entry.Command (Monitor l amount level) ∷ j)) l ≡ unreported p j l)
unfolding grant
monitored p j lawful l amount level on =
    let left = unasked p j lawful (Monitor l amount level) l on refl in
    (left.0 ∙ (rw (same_name_self l) refl), left.1)

tell_append : (p : Setting) (ts us : List PendingReport) (j : Journal) → with_reports p (ts ++ us) j ≡ with_reports p us (with_reports p ts j)
unfolding with_reports
tell_append p [] us j = refl
tell_append p (t ∷ ts) us j = tell_append p ts us (told p j t)

requested_last : (p : Setting) (j : Journal) (l : List ℕ) → reported j l ≤ counted p j l →
    (grant (told p j (Usage l Requested)) l ≡ grant j l) × (unreported p (told p j (Usage l Requested)) l ≡ 0)
unfolding grant reported
requested_last p j l exact = (rw (same_name_self l) refl, rw (same_name_self l) (omega (arith, exact)))

asked_for : (p : Setting) (j : Journal) (lawful : Lawful p j) (l : List ℕ) → is_among l (now p (entry.Command (ReportNow l) ∷ j)).on ≡ true →
    (grant (with_reports p (plan p j (ReportNow l)) (entry.Command (ReportNow l) ∷ j)) l ≡ grant j l)
    × (unreported p (with_reports p (plan p j (ReportNow l)) (entry.Command (ReportNow l) ∷ j)) l ≡ 0)
unfolding with_reports grant
asked_for p j lawful l on =
    let c : Command = ReportNow l in
    let j0 : Journal = entry.Command c ∷ j in
    let ts : List PendingReport = keys_ended p j c in
    let jx : Journal = with_reports p ts j0 in
    let left = all_left p ts j0 l (ended_free p j c l (switched_on p j lawful c l on) (stays_on p j lawful c l on)) in
    let counted_x : counted p jx l ≡ counted p j l = tell_counted p ts j0 l ∙ counted_after_command p j l c (lawful_exact p j lawful).known in
    let reported_x : reported jx l ≡ reported j l = left.1 ∙ reported_after_command j l c in
    let exact = (lawful_exact p j lawful).exact l in
    let last = requested_last p jx l (omega (arith, exact, counted_x, reported_x)) in
    let whole : with_reports p (plan p j c) j0 ≡ told p jx (Usage l Requested) = tell_append p ts (Usage l Requested ∷ []) j0 in
    (ap (λ (x : Journal). grant x l) whole ∙ last.0 ∙ left.0, ap (λ (x : Journal). unreported p x l) whole ∙ last.1)

-- ---- both sessions
-- a key that stays on is reached alike
abbrev Even : Setting → Journal → Journal → List ℕ → Type 0
Even p j k key = (is_reached_by (grant k key) (unreported p k key) ≡ is_reached_by (grant j key) (unreported p j key)) × ReachesAlike p j k key

abbrev pub behind : Setting → Journal → Command → Journal
behind p j c = with_reports p (plan p j c) (entry.Command c ∷ j)

-- by what both grants and octets are now
even_by : (p : Setting) (j k : Journal) (key : List ℕ) (g h : Option ℕ) (a b : ℕ) → grant j key ≡ g → grant k key ≡ h → unreported p j key ≡ a → unreported p k key ≡ b →
    ((more : ℕ) → b + more < out_of_reach → is_reached_by h (b + more) ≡ is_reached_by g (a + more)) → b < out_of_reach → Even p j k key
even_by p j k key g h a b g_is h_is a_is b_is same far = (
  ap₂ is_reached_by h_is (b_is ∙ zero b) ∙ same 0 (omega (arith, far)) ∙ sym (ap₂ is_reached_by g_is (a_is ∙ zero a)),
  λ more some below.
      ap₂ is_reached_by h_is (ap (λ n. n + more) b_is) ∙ same more (omega (arith, below, b_is))
      ∙ sym (ap₂ is_reached_by g_is (ap (λ n. n + more) a_is)),
)
  where
    zero : (n : ℕ) → n ≡ n + 0
    zero n = omega arith

asked_even : (p : Setting) (j k : Journal) → Lawful p j → Lawful p k → (number : ℕ → ℕ) (c : Command) (key : List ℕ) → is_among key (now p (entry.Command c ∷ j)).on ≡ true →
    is_among key (now p (entry.Command (image number c) ∷ k)).on ≡ true → is_key key (key_granted c) ≡ true → EvenFor p j k c → Even p (behind p j c) (behind p k (image number c)) key
asked_even p j k lawful_j lawful_k number (Monitor l amount level) key on_j on_k is even =
    let same : key ≡ l = same_name_is key l is in
    let j2 : Journal = behind p j (Monitor l amount level) in
    let k2 : Journal = behind p k (Monitor l amount level) in
    let own_j = monitored p j lawful_j l amount level (subst (λ (x : List ℕ). is_among x (now p (entry.Command (Monitor l amount level) ∷ j)).on ≡ true) same on_j) in
    let own_k = monitored p k lawful_k l amount level (subst (λ (x : List ℕ). is_among x (now p (entry.Command (Monitor l amount level) ∷ k)).on ≡ true) same on_k) in
    subst (λ (x : List ℕ). Even p j2 k2 x) (sym same)
    (even_by p j2 k2 l (Some amount) (Some amount) (unreported p j l) (unreported p k l) own_j.0 own_k.0 own_j.1 own_k.1
    (λ more below. ap (λ n. is_reached_by (Some amount) (n + more)) even.0) even.1)
asked_even p j k lawful_j lawful_k number (ReportNow l) key on_j on_k is even =
    let same : key ≡ l = same_name_is key l is in
    let j2 : Journal = behind p j (ReportNow l) in
    let k2 : Journal = behind p k (ReportNow l) in
    let here : is_among l (now p j).on ≡ true =
    sym (ap (λ (g : Generation). is_among l g.on) (now_after_other p j (ReportNow l) refl)) ∙ subst (λ (x : List ℕ). is_among x (now p (entry.Command (ReportNow l) ∷ j)).on ≡ true) same on_j in
    let own_j = asked_for p j lawful_j l (subst (λ (x : List ℕ). is_among x (now p (entry.Command (ReportNow l) ∷ j)).on ≡ true) same on_j) in
    let own_k = asked_for p k lawful_k l (subst (λ (x : List ℕ). is_among x (now p (entry.Command (ReportNow l) ∷ k)).on ≡ true) same on_k) in
    subst (λ (x : List ℕ). Even p j2 k2 x) (sym same)
    (even_by p j2 k2 l (grant j l) (grant k l) 0 0 own_j.0 own_k.0 own_j.1 own_k.1
    (λ more below. even here (0 + more) below) (omega arith))
asked_even p j k lawful_j lawful_k number (Install rule) key on_j on_k is even = absurd cc
asked_even p j k lawful_j lawful_k number (Activate name) key on_j on_k is even = absurd cc
asked_even p j k lawful_j lawful_k number (Remove name) key on_j on_k is even = absurd cc
asked_even p j k lawful_j lawful_k number (Stop l) key on_j on_k is even = absurd cc
asked_even p j k lawful_j lawful_k number (Triggers set) key on_j on_k is even = absurd cc
asked_even p j k lawful_j lawful_k number (Notice kind value) key on_j on_k is even = absurd cc
asked_even p j k lawful_j lawful_k number (LoseBearer id) key on_j on_k is even = absurd cc
asked_even p j k lawful_j lawful_k number Close key on_j on_k is even = absurd cc
asked_even p j k lawful_j lawful_k number Terminate key on_j on_k is even = absurd cc

module _ (p : Setting) (j k : Journal) (lawful_j : Lawful p j) (lawful_k : Lawful p k) (alike : Alike p j k) (reach : ReachAlike p j k) (number : ℕ → ℕ) (renumbers : Renumbers p j k number)
    (c : Command) (accepted_j : first_of (refusals p j c) ≡ None) (changing : changes p j c ≡ true) (accepted_k : first_of (refusals p k (image number c)) ≡ None)
    (even : EvenFor p j k c) where
  abbrev d : Command
  d = image number c

  alike_then : Alike p (entry.Command c ∷ j) (entry.Command d ∷ k)
  alike_then = entry_alike p j k lawful_j lawful_k alike number renumbers c accepted_j changing accepted_k

  others_even : (key : List ℕ) → is_among key (now p (entry.Command c ∷ j)).on ≡ true → is_key key (key_granted c) ≡ false → Even p (behind p j c) (behind p k d) key
  others_even key on other =
      let own_j = unchanged p j lawful_j c key on other in
      let own_k = unchanged p k lawful_k d key (alike_then.on key ∙ on) (ap (is_key key) (same_of key_granted (λ n m. refl) number c) ∙ other) in
      let values : is_reached_by (grant k key) (unreported p k key) ≡ is_reached_by (grant j key) (unreported p j key) = rw (own_j.0, own_k.0) at (reach.reached key) in (
        ap₂ is_reached_by own_k.1 own_k.2 ∙ values ∙ sym (ap₂ is_reached_by own_j.1 own_j.2),
        λ more some far.
            ap₂ is_reached_by own_k.1 (ap (λ n. n + more) own_k.2)
            ∙ reach.later key own_j.0 more some (less (unreported p (behind p k d) key) (unreported p k key) more own_k.2 far)
            ∙ sym (ap₂ is_reached_by own_j.1 (ap (λ n. n + more) own_j.2)),
      )
    where
      less : (a b m : ℕ) → a ≡ b → a + m < out_of_reach → b + m < out_of_reach
      less a b m same far = omega (arith, same, far)

  all_even : (key : List ℕ) → is_among key (now p (entry.Command c ∷ j)).on ≡ true → Even p (behind p j c) (behind p k d) key
  all_even key on =
      elim (cases_Bool (is_key key (key_granted c))) [
        | inl is ↦ asked_even p j k lawful_j lawful_k number c key on (alike_then.on key ∙ on) is even
        | inr other ↦ others_even key on other
      ]

  on_j : (key : List ℕ) → is_among key (now p (behind p j c)).on ≡ is_among key (now p (entry.Command c ∷ j)).on
  on_j key = ap (λ (g : Generation). is_among key g.on) (tell_now p (plan p j c) (entry.Command c ∷ j))

  on_both : (key : List ℕ) → is_among key (now p (behind p k d)).on ≡ is_among key (now p (behind p j c)).on
  on_both key = ap (λ (g : Generation). is_among key g.on) (tell_now p (plan p k d) (entry.Command d ∷ k)) ∙ alike_then.on key ∙ sym (on_j key)

  pub behind_alike : ReachAlike p (behind p j c) (behind p k d)
  behind_alike = record {
    reached = λ key. elim (cases_Bool (is_among key (now p (entry.Command c ∷ j)).on)) [
      | inl on ↦ ap₂ (λ a b. a && b) (on_both key) (all_even key on).0
      | inr off ↦ rw (on_both key ∙ on_j key ∙ off, on_j key ∙ off) refl
    ];
    later = λ key on. (all_even key (sym (on_j key) ∙ on)).1;
  }

  pub command_reach_alike : ReachAlike p (after_command p j c) (after_command p k d)
  unfolding after_command
  command_reach_alike =
      thresholds_alike p (behind p j c) (behind p k d)
      (tell_subscribed p (plan p k d) (entry.Command d ∷ k) ∙ alike_then.events ∙ sym (tell_subscribed p (plan p j c) (entry.Command c ∷ j)))
      on_both behind_alike
