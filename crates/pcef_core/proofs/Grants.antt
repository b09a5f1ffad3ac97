-- No grant stays reached while usage reports are subscribed.
use Rattle.std.proofs.Common.{◌≡◌, ◌∙◌, ◌≤◌, ◌&&◌, ℕ, Bool, true, false, List, [], ◌∷◌, Option, Some, None, filter, map, refl, sym, ap, subst, arith, inl, inr}
use Rattle.std.specs.Prelude.{if◌then◌else◌, nat_le}
use Rattle.std.proofs.lemmas.Bool.{cases_Bool}
use Rattle.pcef_model.specs.declared.entry.Entry.TheVariants as entry
use Rattle.pcef_model.specs.declared.pending_report.PendingReport.{PendingReport}
use Rattle.pcef_model.specs.declared.pending_report.PendingReport.TheVariants.{Usage}
use Rattle.pcef_model.specs.declared.report.Cause.TheVariants.{Threshold}
use Rattle.pcef_model.specs.declared.trigger.TriggerSet.{TriggerSet}
use Rattle.pcef_model.specs.Setting.{Setting, same_name}
use Rattle.pcef_model.specs.Commands.{is_among}
use Rattle.pcef_model.specs.Entries.{Journal}
use Rattle.pcef_model.specs.Journals.{grant, now, report_count, reported, slots, subscribed, takes_grant, unreported}
use Rattle.pcef_model.specs.Lawful.{Lawful, at_first, by_attach, by_command, by_flush, by_leave}
use Rattle.pcef_model.specs.Reports.{after_command, body_of, is_reached, is_reached_by, plan, with_reports, thresholds, with_rows, with_thresholds}
use Rattle.pcef_model.proofs.Reports.{tell_slots, tell_subscribed}
use Rattle.pcef_model.proofs.Ending.{among_kept}

-- ---- one report
abbrev with_report : Setting → PendingReport → Journal → Journal
with_report p t j = entry.Report (record { number = report_count j; body = body_of p j t }) ∷ j

never : (on : Bool) → (on && false) ≡ false
never true = refl
never false = refl

-- a grant that isn't reached by some octets isn't by fewer
fewer : (on : Bool) (amount : Option ℕ) (few many : ℕ) → few ≤ many → (on && is_reached_by amount many) ≡ false → (on && is_reached_by amount few) ≡ false
fewer false amount few many below not = refl
fewer true None few many below not = refl
fewer true (Some amount) few many below not =
    elim (cases_Bool (nat_le amount few)) [
      | inl reached ↦
          let enough : nat_le amount many ≡ true = search arith in
          absurd (let e = not in cc)
      | inr isnt ↦ isnt
    ]

-- where a report takes the grant nothing is reached; else it leaves the grant, and less is unreported
taken_or_left : (on taken : Bool) (amount : Option ℕ) (few many : ℕ) → few ≤ many → (on && is_reached_by amount many) ≡ false
    → (on && is_reached_by (if taken then None else amount) few) ≡ false
taken_or_left on true amount few many below not = never on
taken_or_left on false amount few many below not = fewer on amount few many below not

one_stays : (p : Setting) (t : PendingReport) (j : Journal) (key : List ℕ) → is_reached p j key ≡ false → is_reached p (with_report p t j) key ≡ false
unfolding grant reported
one_stays p t j key not =
    taken_or_left (is_among key (now p j).on) (takes_grant key (body_of p j t)) (grant j key) (unreported p (with_report p t j) key) (unreported p j key) (omega arith) not

tell_stays : (p : Setting) (ts : List PendingReport) (j : Journal) (key : List ℕ) → is_reached p j key ≡ false → is_reached p (with_reports p ts j) key ≡ false
unfolding with_reports
tell_stays p [] j key not = not
tell_stays p (t ∷ ts) j key not = tell_stays p ts (with_report p t j) key (one_stays p t j key not)

-- ---- thresholds
one_clears : (p : Setting) (other : List ℕ) (j : Journal) (key : List ℕ) → same_name key other ≡ true → is_reached p (with_report p (Usage other Threshold) j) key ≡ false
unfolding grant reported
one_clears p other j key same = rw same (never (is_among key (now p j).on))

tell_clears : (p : Setting) (keys : List (List ℕ)) (j : Journal) (key : List ℕ) → is_among key keys ≡ true → is_reached p (with_reports p (map (λ k. Usage k Threshold) keys) j) key ≡ false
unfolding with_reports
tell_clears p [] j key there = absurd cc
tell_clears p (k ∷ keys) j key there =
    elim (cases_Bool (same_name key k)) [
      | inl same ↦ tell_stays p (map (λ o. Usage o Threshold) keys) (with_report p (Usage k Threshold) j) key (one_clears p k j key same)
      | inr differs ↦ let rest : is_among key keys ≡ true = rw differs at there in tell_clears p keys (with_report p (Usage k Threshold) j) key rest
    ]

settled : (p : Setting) (j : Journal) (key : List ℕ) → (subscribed (with_thresholds p j)).usage_report ≡ true → is_among key (slots p (with_thresholds p j)) ≡ true
    → is_reached p (with_thresholds p j) key ≡ false
unfolding thresholds
settled p j key on there =
    let before : (subscribed j).usage_report ≡ true = ap (λ (set : TriggerSet). set.usage_report) (sym (tell_subscribed p (thresholds p j) j)) ∙ on in
    let among : is_among key (slots p j) ≡ true = ap (is_among key) (sym (tell_slots p (thresholds p j) j)) ∙ there in
    elim (cases_Bool (is_reached p j key)) [
      | inl reached ↦
          let told : thresholds p j ≡ map (λ k. Usage k Threshold) (filter (is_reached p j) (slots p j)) = rw before refl in
          subst (λ (ts : List PendingReport). is_reached p (with_reports p ts j) key ≡ false) (sym told)
          (tell_clears p (filter (is_reached p j) (slots p j)) j key (among_kept (is_reached p j) key (slots p j) among reached))
      | inr not ↦ tell_stays p (thresholds p j) j key not
    ]

-- ---- journals
pub grants_reported : (p : Setting) (j : Journal) → Lawful p j → (subscribed j).usage_report ≡ true → (key : List ℕ) → is_among key (slots p j) ≡ true → is_reached p j key ≡ false
unfolding after_command grant reported subscribed
grants_reported p _ at_first on key there = absurd cc
grants_reported p _ (by_command j c l accepted changing) on key there = settled p (with_reports p (plan p j c) (entry.Command c ∷ j)) key on there
grants_reported p _ (by_attach j l accepted) on key there = grants_reported p j l on key there
grants_reported p _ (by_leave j worker l attached) on key there = grants_reported p j l on key there
grants_reported p _ (by_flush j worker [] l accepted follow) on key there = grants_reported p j l on key there
grants_reported p _ (by_flush j worker (r ∷ rs) l accepted follow) on key there = settled p (with_rows (r ∷ rs) j) key on there
