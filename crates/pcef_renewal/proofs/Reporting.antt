-- Sessions that are alike report the same.
use Rattle.std.proofs.Common.{◌≡◌, ◌∙◌, ◌==◌, ◌&&◌, ◌||◌, ◌++◌, ℕ, Bool, true, false, not, List, [], ◌∷◌, Contains, None, filter, map, refl, sym, ap, ap₂, subst, arith, inl, inr}
use Rattle.std.specs.Prelude.{◌⊎◌}
use Rattle.std.specs.Ordering.{is_lt, nat_cmp}
use Rattle.std.specs.Cmp.Lexicographic.{slice_cmp}
use Rattle.std.proofs.lemmas.Bool.{cases_Bool}
use Rattle.std.proofs.lemmas.List.Elements.{Contains-append_cases, Contains-append_left, Contains-append_right}
use Rattle.pcef_model.specs.declared.command.Command.{Command}
use Rattle.pcef_model.specs.declared.command.Command.TheVariants.{Install, Activate, Remove, Monitor, Stop, ReportNow, Triggers, Notice, LoseBearer, Close, Terminate}
use Rattle.pcef_model.specs.declared.entry.Entry.TheVariants as entry
use Rattle.pcef_model.specs.declared.pending_report.PendingReport.{PendingReport}
use Rattle.pcef_model.specs.declared.pending_report.PendingReport.TheVariants.{Inactive, Usage}
use Rattle.pcef_model.specs.declared.report.Cause.{Cause}
use Rattle.pcef_model.specs.declared.report.Cause.TheVariants.{RulesGone, Threshold}
use Rattle.pcef_model.specs.declared.row.Row.{Row}
use Rattle.pcef_model.specs.declared.trigger.TriggerSet.{TriggerSet}
use Rattle.pcef_model.specs.ActiveRules.{Active, has_key}
use Rattle.pcef_model.specs.Commands.{is_among, switched}
use Rattle.pcef_model.specs.Entries.{Journal}
use Rattle.pcef_model.specs.Generations.{Generation, rules_after}
use Rattle.pcef_model.specs.Journals.{grant, now, slots, subscribed, tables, unreported}
use Rattle.pcef_model.specs.Lawful.{Lawful}
use Rattle.pcef_model.specs.Outcomes.{changes}
use Rattle.pcef_model.specs.Refusals.{first_of, is_terminate, refusals}
use Rattle.pcef_model.specs.Reports.{in_order, inactive, insert_name, is_reached, is_reached_by, keys_ended, noticed_by, plan, requested, thresholds, with_rows}
use Rattle.pcef_model.specs.Setting.{Setting}
use Rattle.pcef_model.proofs.Members.{filter_from, filter_to, first_there, later_there, there_cases}
use Rattle.pcef_model.proofs.Reports.{tell_subscribed}
use Rattle.pcef_renewal.specs.Alike.{Alike, Renumbers, image}
use Rattle.pcef_renewal.specs.Counting.{EvenFor, ReachAlike, SamePackets}
use Rattle.pcef_renewal.specs.Reporting.{SameReports, reports_of}
use Rattle.pcef_renewal.proofs.Budget.{subscribed_rows}
use Rattle.pcef_renewal.proofs.Counting.{on_and, packets_reach_alike}
use Rattle.pcef_renewal.proofs.Fitting.{among_from, among_to}
use Rattle.pcef_renewal.proofs.FreeBearers.{has_own}
use Rattle.pcef_renewal.proofs.Granting.{behind, behind_alike}
use Rattle.pcef_renewal.proofs.Likeness.{on_has_slot}
use Rattle.pcef_renewal.proofs.Regrouping.{map_there}
use Rattle.pcef_renewal.proofs.Staying.{entry_alike, kept_has_slot, keyed_after, keyed_before, same_of, switched_alike}

-- ---- lists
map_to : {X Y : Type 0} (f : X → Y) (xs : List X) (x : X) → Contains xs x → Contains (map f xs) (f x)
map_to f [] x there = absurd (omega (arith, there.1))
map_to f (y ∷ xs) x there =
    elim (there_cases y xs x there) [
      | inl same ↦ (0, omega arith, ap f same)
      | inr later ↦ later_there (f y) (map f xs) (f x) (map_to f xs x later)
    ]

insert_from : (n : List ℕ) (ns : List (List ℕ)) (x : List ℕ) → Contains (insert_name n ns) x → (n ≡ x) ⊎ Contains ns x
insert_from n [] x there = there_cases n [] x there
insert_from n (m ∷ ns) x there =
    elim (cases_Bool (is_lt (slice_cmp nat_cmp n m))) [
      | inl less ↦ there_cases n (m ∷ ns) x (rw less at there)
      | inr more ↦ elim (there_cases m (insert_name n ns) x (rw more at there)) [
        | inl same ↦ inr (0, omega arith, same)
        | inr later ↦ elim (insert_from n ns x later) [ inl own ↦ inl own | inr other ↦ inr (later_there m ns x other) ]
      ]
    ]

insert_own : (n : List ℕ) (ns : List (List ℕ)) → Contains (insert_name n ns) n
insert_own n [] = first_there n []
insert_own n (m ∷ ns) =
    elim (cases_Bool (is_lt (slice_cmp nat_cmp n m))) [
      | inl less ↦ rw less (first_there n (m ∷ ns))
      | inr more ↦ rw more (later_there m (insert_name n ns) n (insert_own n ns))
    ]

insert_other : (n : List ℕ) (ns : List (List ℕ)) (x : List ℕ) → Contains ns x → Contains (insert_name n ns) x
insert_other n [] x there = absurd (omega (arith, there.1))
insert_other n (m ∷ ns) x there =
    elim (cases_Bool (is_lt (slice_cmp nat_cmp n m))) [
      | inl less ↦ rw less (later_there n (m ∷ ns) x there)
      | inr more ↦ rw more (elim (there_cases m ns x there) [
        | inl same ↦ (0, omega arith, same)
        | inr later ↦ later_there m (insert_name n ns) x (insert_other n ns x later)
      ])
    ]

order_from : (ns : List (List ℕ)) (x : List ℕ) → Contains (in_order ns) x → Contains ns x
order_from [] x there = absurd (omega (arith, there.1))
order_from (n ∷ ns) x there =
    elim (insert_from n (in_order ns) x there) [ inl same ↦ (0, omega arith, same) | inr later ↦ later_there n ns x (order_from ns x later) ]

order_to : (ns : List (List ℕ)) (x : List ℕ) → Contains ns x → Contains (in_order ns) x
order_to [] x there = absurd (omega (arith, there.1))
order_to (n ∷ ns) x there =
    elim (there_cases n ns x there) [
      | inl same ↦ subst (λ (y : List ℕ). Contains (insert_name n (in_order ns)) y) same (insert_own n (in_order ns))
      | inr later ↦ insert_other n (in_order ns) x (order_to ns x later)
    ]

abbrev Reaches : List PendingReport → List PendingReport → Type 0
Reaches ts us = (t : PendingReport) → Contains ts t → Contains us t

both_reach : (ws xs ys zs : List PendingReport) → Reaches ws ys → Reaches xs zs → Reaches (ws ++ xs) (ys ++ zs)
both_reach ws xs ys zs one other t there =
    elim (Contains-append_cases ws xs t there) [
      | inl here ↦ Contains-append_left ys zs t (one t here)
      | inr later ↦ Contains-append_right ys zs t (other t later)
    ]

same_lists : (xs ys : List PendingReport) → xs ≡ ys → Reaches xs ys
same_lists xs ys same t there = subst (λ (ts : List PendingReport). Contains ts t) same there

-- keys of one list that are in the other
usage_reach : (cause : Cause) (s t : List ℕ → Bool) (ks js : List (List ℕ)) → ((key : List ℕ) → Contains js key → t key ≡ true → Contains ks key × (s key ≡ true)) →
    Reaches (map (λ k. Usage k cause) (filter t js)) (map (λ k. Usage k cause) (filter s ks))
usage_reach cause s t ks js to u there =
    let w = map_there (λ k. Usage k cause) (filter t js) u there in
    let own = filter_from t js w.0 w.1 in
    let other = to w.0 own.0 own.1 in
    subst (λ (x : PendingReport). Contains (map (λ k. Usage k cause) (filter s ks)) x) w.2 (map_to (λ k. Usage k cause) (filter s ks) w.0 (filter_to s ks w.0 other.0 other.1))

-- ---- lost rules
abbrev lost : Generation → ℕ → List PendingReport
lost g id = map Inactive (in_order (map (λ (r : Active). r.properties.name) (filter (λ (r : Active). g.id_of r.properties.qos == id) g.rules)))

lost_reach : (g h : Generation) (n m : ℕ) → ((r : Active) → Contains g.rules r → Contains h.rules r) →
    ((r : Active) → Contains g.rules r → (h.id_of r.properties.qos == m) ≡ (g.id_of r.properties.qos == n)) → Reaches (lost g n) (lost h m)
lost_reach g h n m to same t there =
    let name : Active → List ℕ = λ r. r.properties.name in
    let old : List Active = filter (λ (r : Active). g.id_of r.properties.qos == n) g.rules in
    let new : List Active = filter (λ (r : Active). h.id_of r.properties.qos == m) h.rules in
    let w = map_there Inactive (in_order (map name old)) t there in
    let r = map_there name old w.0 (order_from (map name old) w.0 w.1) in
    let own = filter_from (λ (s : Active). g.id_of s.properties.qos == n) g.rules r.0 r.1 in
    let other : Contains new r.0 = filter_to (λ (s : Active). h.id_of s.properties.qos == m) h.rules r.0 (to r.0 own.0) (same r.0 own.0 ∙ own.1) in
    let named : Contains (in_order (map name new)) w.0 =
    order_to (map name new) w.0 (subst (λ (x : List ℕ). Contains (map name new) x) r.2 (map_to name new r.0 other)) in
    subst (λ (x : PendingReport). Contains (map Inactive (in_order (map name new))) x) w.2 (map_to Inactive (in_order (map name new)) w.0 named)

inactive_reach : (g h : Generation) (number : ℕ → ℕ) (c : Command) → ((r : Active) → Contains g.rules r → Contains h.rules r) →
    ((r : Active) → Contains g.rules r → (n : ℕ) → (h.id_of r.properties.qos == number n) ≡ (g.id_of r.properties.qos == n)) → Reaches (inactive g c) (inactive h (image number c))
inactive_reach g h number (LoseBearer id) to same = lost_reach g h id.0 (number id.0) to (λ r there. same r there id.0)
inactive_reach g h number (Install rule) to same = λ t there. there
inactive_reach g h number (Activate name) to same = λ t there. there
inactive_reach g h number (Remove name) to same = λ t there. there
inactive_reach g h number (Monitor key amount level) to same = λ t there. there
inactive_reach g h number (Stop key) to same = λ t there. there
inactive_reach g h number (ReportNow key) to same = λ t there. there
inactive_reach g h number (Triggers set) to same = λ t there. there
inactive_reach g h number (Notice kind value) to same = λ t there. there
inactive_reach g h number Close to same = λ t there. there
inactive_reach g h number Terminate to same = λ t there. there

inactive_back : (g h : Generation) (number : ℕ → ℕ) (c : Command) → ((r : Active) → Contains h.rules r → Contains g.rules r) →
    ((r : Active) → Contains h.rules r → (n : ℕ) → (g.id_of r.properties.qos == n) ≡ (h.id_of r.properties.qos == number n)) → Reaches (inactive h (image number c)) (inactive g c)
inactive_back g h number (LoseBearer id) to same = lost_reach h g (number id.0) id.0 to (λ r there. same r there id.0)
inactive_back g h number (Install rule) to same = λ t there. there
inactive_back g h number (Activate name) to same = λ t there. there
inactive_back g h number (Remove name) to same = λ t there. there
inactive_back g h number (Monitor key amount level) to same = λ t there. there
inactive_back g h number (Stop key) to same = λ t there. there
inactive_back g h number (ReportNow key) to same = λ t there. there
inactive_back g h number (Triggers set) to same = λ t there. there
inactive_back g h number (Notice kind value) to same = λ t there. there
inactive_back g h number Close to same = λ t there. there
inactive_back g h number Terminate to same = λ t there. there

-- ---- keys that ended
abbrev gone : Setting → Journal → Command → List ℕ → Bool
gone p j c key = is_among key (switched c (now p j).on) && has_key key (now p j).rules && not (has_key key (rules_after p (now p j) c))

abbrev gone_reports : Setting → Journal → Command → List PendingReport
gone_reports p j c = map (λ k. Usage k RulesGone) (filter (gone p j c) (slots p j))

ended_are : (p : Setting) (j : Journal) (c : Command) → is_terminate (entry.Command c) ≡ false → keys_ended p j c ≡ gone_reports p j c
ended_are p j Terminate isnt = absurd cc
ended_are p j (Install rule) isnt = refl
ended_are p j (Activate name) isnt = refl
ended_are p j (Remove name) isnt = refl
ended_are p j (Monitor key amount level) isnt = refl
ended_are p j (Stop key) isnt = refl
ended_are p j (ReportNow key) isnt = refl
ended_are p j (Triggers set) isnt = refl
ended_are p j (Notice kind value) isnt = refl
ended_are p j (LoseBearer id) isnt = refl
ended_are p j Close isnt = refl

had_rule : (p : Setting) (j : Journal) (c : Command) (key : List ℕ) → gone p j c key ≡ true → has_key key (now p j).rules ≡ true
had_rule p j c key is = from (is_among key (switched c (now p j).on)) (has_key key (now p j).rules) (not (has_key key (rules_after p (now p j) c))) is
  where
    from : (a b d : Bool) → (a && b && d) ≡ true → b ≡ true
    from true true d is = refl
    from true false d is = absurd cc
    from false b d is = absurd cc

-- ---- all
module _ (p : Setting) (j k : Journal) (lawful_j : Lawful p j) (lawful_k : Lawful p k) (alike : Alike p j k) (number : ℕ → ℕ) (renumbers : Renumbers p j k number)
    (c : Command) (accepted_j : first_of (refusals p j c) ≡ None) (changing : changes p j c ≡ true) (accepted_k : first_of (refusals p k (image number c)) ≡ None) where
  abbrev d : Command
  d = image number c

  gone_same : (key : List ℕ) → gone p k d key ≡ gone p j c key
  gone_same key =
      ap₂ (λ a b. a && b)
      (ap₂ (λ a b. a && b) (ap (is_among key) (same_of (λ x. switched x (now p k).on) (λ n m. refl) number c) ∙ switched_alike c (now p k).on (now p j).on alike.on key)
      (keyed_before p j k lawful_j lawful_k alike number renumbers c accepted_j changing accepted_k key))
      (ap not (keyed_after p j k lawful_j lawful_k alike number renumbers c accepted_j changing accepted_k key))

  gone_to : Reaches (gone_reports p j c) (gone_reports p k d)
  gone_to =
      usage_reach RulesGone (gone p k d) (gone p j c) (slots p k) (slots p j) (λ key there is.
      let is_k : gone p k d key ≡ true = gone_same key ∙ is in
      (among_to key (slots p k) (kept_has_slot p k key (or_has key (had_rule p k d key is_k))), is_k))
    where
      or_has : (key : List ℕ) → has_key key (now p k).rules ≡ true → (is_among key (now p k).on || has_key key (now p k).rules) ≡ true
      or_has key has = (ap (λ b. is_among key (now p k).on || b) has ∙ from (is_among key (now p k).on))
        where
          from : (a : Bool) → (a || true) ≡ true
          from true = refl
          from false = refl

  gone_back : Reaches (gone_reports p k d) (gone_reports p j c)
  gone_back =
      usage_reach RulesGone (gone p j c) (gone p k d) (slots p j) (slots p k) (λ key there is.
      (among_to key (slots p j) (alike.slots_had key (among_from key (slots p k) there)), sym (gone_same key) ∙ is))

  rest_same : (requested c ++ noticed_by (subscribed j) c) ≡ (requested d ++ noticed_by (subscribed k) d)
  rest_same =
      sym (ap₂ (λ xs ys. xs ++ ys) (same_of requested (λ n m. refl) number c) (same_of (noticed_by (subscribed k)) (λ n m. refl) number c ∙ ap (λ set. noticed_by set c) alike.events))

  module _ (isnt : is_terminate (entry.Command c) ≡ false) where
    isnt_k : is_terminate (entry.Command d) ≡ false
    isnt_k = same_of (λ x. is_terminate (entry.Command x)) (λ n m. refl) number c ∙ isnt

    plan_to : Reaches (plan p j c) (plan p k d)
    plan_to =
        both_reach (inactive (now p j) c) (keys_ended p j c ++ (requested c ++ noticed_by (subscribed j) c)) (inactive (now p k) d) (keys_ended p k d ++ (requested d ++ noticed_by (subscribed k) d))
        (inactive_reach (now p j) (now p k) number c (λ r. (alike.rules r).0) (λ r there n. renumbers r.properties.qos (has_own p (now p j).rules r there) n))
        (both_reach (keys_ended p j c) (requested c ++ noticed_by (subscribed j) c) (keys_ended p k d) (requested d ++ noticed_by (subscribed k) d)
        (λ t there. same_lists (gone_reports p k d) (keys_ended p k d) (sym (ended_are p k d isnt_k)) t (gone_to t (same_lists (keys_ended p j c) (gone_reports p j c) (ended_are p j c isnt) t there)))
        (same_lists (requested c ++ noticed_by (subscribed j) c) (requested d ++ noticed_by (subscribed k) d) rest_same))

    plan_back : Reaches (plan p k d) (plan p j c)
    plan_back =
        both_reach (inactive (now p k) d) (keys_ended p k d ++ (requested d ++ noticed_by (subscribed k) d)) (inactive (now p j) c) (keys_ended p j c ++ (requested c ++ noticed_by (subscribed j) c))
        (inactive_back (now p j) (now p k) number c (λ r. (alike.rules r).1) (λ r there n. sym (renumbers r.properties.qos (has_own p (now p j).rules r ((alike.rules r).1 there)) n)))
        (both_reach (keys_ended p k d) (requested d ++ noticed_by (subscribed k) d) (keys_ended p j c) (requested c ++ noticed_by (subscribed j) c)
        (λ t there. same_lists (gone_reports p j c) (keys_ended p j c) (sym (ended_are p j c isnt)) t (gone_back t (same_lists (keys_ended p k d) (gone_reports p k d) (ended_are p k d isnt_k) t there)))
        (same_lists (requested d ++ noticed_by (subscribed k) d) (requested c ++ noticed_by (subscribed j) c) (sym rest_same)))

-- ---- thresholds
on_slot : (p : Setting) (j : Journal) (key : List ℕ) → is_reached p j key ≡ true → Contains (slots p j) key
on_slot p j key is = among_to key (slots p j) (on_has_slot p (tables j) key (on_and (is_among key (now p j).on) (is_reached_by (grant j key) (unreported p j key)) is))

thresholds_reach : (p : Setting) (j k : Journal) → subscribed k ≡ subscribed j → ((key : List ℕ) → is_reached p k key ≡ is_reached p j key) → Reaches (thresholds p j) (thresholds p k)
unfolding thresholds
thresholds_reach p j k events same t there =
    elim (cases_Bool (subscribed j).usage_report) [
      | inr off ↦ absurd (let w : Contains {X = PendingReport} [] t = rw off at there in omega (arith, w.1))
      | inl is ↦
          let is_k : (subscribed k).usage_report ≡ true = ap (λ (set : TriggerSet). set.usage_report) events ∙ is in
          rw is_k (usage_reach Threshold (is_reached p k) (is_reached p j) (slots p k) (slots p j) (λ key own reached.
          (on_slot p k key (same key ∙ reached), same key ∙ reached)) t (rw is at there))
    ]

pub packets_report_alike : (p : Setting) (j k : Journal) → Lawful p j → Lawful p k → Alike p j k → ReachAlike p j k → (rs ss : List Row) → SamePackets p j k rs ss →
    SameReports (thresholds p (with_rows rs j)) (thresholds p (with_rows ss k))
packets_report_alike p j k lawful_j lawful_k alike reach rs ss packets t =
    let same = (packets_reach_alike p j k lawful_j lawful_k alike reach rs ss packets).0 in
    let events : subscribed (with_rows ss k) ≡ subscribed (with_rows rs j) = subscribed_rows ss k ∙ alike.events ∙ sym (subscribed_rows rs j) in (
      thresholds_reach p (with_rows rs j) (with_rows ss k) events same t,
      thresholds_reach p (with_rows ss k) (with_rows rs j) (sym events) (λ key. sym (same key)) t,
    )

pub commands_report_alike : (p : Setting) (j k : Journal) → Lawful p j → Lawful p k → Alike p j k → ReachAlike p j k → (number : ℕ → ℕ) → Renumbers p j k number → (c : Command) →
    first_of (refusals p j c) ≡ None → changes p j c ≡ true → first_of (refusals p k (image number c)) ≡ None → EvenFor p j k c → is_terminate (entry.Command c) ≡ false →
    SameReports (reports_of p j c) (reports_of p k (image number c))
commands_report_alike p j k lawful_j lawful_k alike reach number renumbers c accepted_j changing accepted_k even isnt t =
    let d : Command = image number c in
    let after = entry_alike p j k lawful_j lawful_k alike number renumbers c accepted_j changing accepted_k in
    let reached = (behind_alike p j k lawful_j lawful_k alike reach number renumbers c accepted_j changing accepted_k even).reached in
    let events : subscribed (behind p k d) ≡ subscribed (behind p j c) =
    tell_subscribed p (plan p k d) (entry.Command d ∷ k) ∙ after.events ∙ sym (tell_subscribed p (plan p j c) (entry.Command c ∷ j)) in (
      both_reach (plan p j c) (thresholds p (behind p j c)) (plan p k d) (thresholds p (behind p k d))
          (plan_to p j k lawful_j lawful_k alike number renumbers c accepted_j changing accepted_k isnt)
          (thresholds_reach p (behind p j c) (behind p k d) events reached) t,
      both_reach (plan p k d) (thresholds p (behind p k d)) (plan p j c) (thresholds p (behind p j c))
          (plan_back p j k lawful_j lawful_k alike number renumbers c accepted_j changing accepted_k isnt)
          (thresholds_reach p (behind p k d) (behind p j c) (sym events) (λ key. sym (reached key))) t,
    )
