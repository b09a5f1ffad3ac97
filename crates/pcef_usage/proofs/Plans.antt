-- What commands report by themselves, by the counters.
use Rattle.std.proofs.Common.{◌≡◌, ◌∙◌, ℕ, Bool, true, false, List, [], ◌∷◌, refl, sym, ap, map, inl, inr, arith, nat_lt}
use Rattle.std.specs.Prelude.{not, ◌||◌, ◌&&◌, ◌≢◌, filter}
use Rattle.std.specs.List.{AllByRecursion}
use Rattle.std.proofs.lemmas.Bool.{cases_Bool}
use Rattle.pcef_model.specs.declared.command.Command.{Command}
use Rattle.pcef_model.specs.declared.command.Command.TheVariants.{Install, Activate, Remove, Monitor, Stop, ReportNow, Triggers, Notice, LoseBearer, Close, Terminate}
use Rattle.pcef_model.specs.declared.report.Cause.{Cause}
use Rattle.pcef_model.specs.declared.report.Cause.TheVariants.{RulesGone, Terminated}
use Rattle.pcef_model.specs.declared.pending_report.PendingReport.{PendingReport}
use Rattle.pcef_model.specs.declared.pending_report.PendingReport.TheVariants.{Usage}
use Rattle.pcef_model.specs.Setting.{Setting}
use Rattle.pcef_model.specs.ActiveRules.{has_key, Active}
use Rattle.pcef_model.specs.Commands.{is_among, switched}
use Rattle.pcef_model.specs.Generations.{rules_after}
use Rattle.pcef_model.specs.Entries.{Journal}
use Rattle.pcef_model.specs.Journals.{now, slots, unreported}
use Rattle.pcef_model.specs.Reports.{keys_ended}
use Rattle.pcef_usage.specs.declared.usage.KeyState.{KeyState}
use Rattle.pcef_usage.specs.Commands.{loses_rules, usage_of}
use Rattle.pcef_usage.specs.Keys.{keys_of}
use Rattle.pcef_usage.specs.PendingReports.{AllCount, AllOn, Counts, OnIs}
use Rattle.pcef_usage.proofs.Gone.{gone_are, is_gone, none_gone}
use Rattle.pcef_model.proofs.RulesAfter.{filter_all}

-- ---- commands that leave the rules
filter_none : (test : List ℕ → Bool) (keys : List (List ℕ)) → ((k : List ℕ) → test k ≡ false) → filter test keys ≡ []
filter_none test [] none = refl
filter_none test (k ∷ keys) none = rw (none k, filter_none test keys none) refl

none_ended : (p : Setting) (j : Journal) (c : Command) → c ≢ Terminate → rules_after p (now p j) c ≡ (now p j).rules → keys_ended p j c ≡ []
none_ended p j c differs same =
    gone_are p j c differs ∙ ap (map (λ k. Usage k RulesGone)) (filter_none (is_gone p j c) (slots p j) (λ k. none_gone p j c k same))

-- ---- keys that end, slot by slot
by_states : (cause : Cause) (mine : KeyState → Bool) (test : List ℕ → Bool) (states : List KeyState) → AllByRecursion (λ s. mine s ≡ test s.key) states →
    usage_of cause mine states ≡ map (λ k. Usage k cause) (filter test (keys_of states))
by_states cause mine test [] all = refl
by_states cause mine test (s ∷ states) all =
    elim (cases_Bool (test s.key)) [
      | inl is ↦ let here : mine s ≡ true = all.0 ∙ is in rw (is, here, by_states cause mine test states all.1) refl
      | inr isnt ↦ let here : mine s ≡ false = all.0 ∙ isnt in rw (isnt, here, by_states cause mine test states all.1) refl
    ]

gone_alike : (p : Setting) (j : Journal) (c : Command) (states : List KeyState) → switched c (now p j).on ≡ (now p j).on → AllByRecursion (OnIs p j) states →
    AllByRecursion (λ s. loses_rules (now p j).rules (rules_after p (now p j) c) s ≡ is_gone p j c s.key) states
gone_alike p j c [] same all = tt
gone_alike p j c (s ∷ states) same all =
    let on_is : s.on ≡ is_among s.key (switched c (now p j).on) = all.0.on_is ∙ ap (is_among s.key) (sym same) in
    (ap (λ b. b && has_key s.key (now p j).rules && not (has_key s.key (rules_after p (now p j) c))) on_is, gone_alike p j c states same all.1)

-- the keys that lose their last rule by a command that switches none by itself
pub gone_by_states : (p : Setting) (j : Journal) (c : Command) (states : List KeyState) → c ≢ Terminate → switched c (now p j).on ≡ (now p j).on → keys_of states ≡ slots p j →
    AllOn p j states → usage_of RulesGone (loses_rules (now p j).rules (rules_after p (now p j) c)) states ≡ keys_ended p j c
unfolding AllOn
gone_by_states p j c states differs same keys on =
    by_states RulesGone (loses_rules (now p j).rules (rules_after p (now p j) c)) (is_gone p j c) states (gone_alike p j c states same on)
    ∙ ap (λ ks. map (λ k. Usage k RulesGone) (filter (is_gone p j c) ks)) keys ∙ sym (gone_are p j c differs)

ending_alike : (p : Setting) (j : Journal) (states : List KeyState) → AllByRecursion (OnIs p j) states → AllByRecursion (Counts p j []) states →
    AllByRecursion (λ s. (s.on || nat_lt 0 s.unreported) ≡ (is_among s.key (now p j).on || nat_lt 0 (unreported p j s.key))) states
ending_alike p j [] on counts = tt
ending_alike p j (s ∷ states) on counts =
    let octets : s.unreported ≡ unreported p j s.key = omega (arith, counts.0.reported_is, counts.0.counted_is) in
    (rw (on.0.on_is, octets) refl, ending_alike p j states on.1 counts.1)

-- ---- commands that change the rules
abbrev pub rules_gone : Setting → Journal → Command → List KeyState → List PendingReport
rules_gone p j c states = usage_of RulesGone (loses_rules (now p j).rules (rules_after p (now p j) c)) states

-- where the rules stay, no key loses its last one
never_lost : (on has : Bool) → (on && has && not has) ≡ false
never_lost true true = refl
never_lost true false = refl
never_lost false has = refl

none_lost : (rules : List Active) (states : List KeyState) → usage_of RulesGone (loses_rules rules rules) states ≡ []
none_lost rules [] = refl
none_lost rules (s ∷ states) = let stays : loses_rules rules rules s ≡ false = never_lost s.on (has_key s.key rules) in rw stays (none_lost rules states)

none_lost_by : (p : Setting) (j : Journal) (c : Command) (states : List KeyState) → c ≢ Terminate → rules_after p (now p j) c ≡ (now p j).rules → rules_gone p j c states ≡ keys_ended p j c
none_lost_by p j c states differs same =
    ap (λ rules. usage_of RulesGone (loses_rules (now p j).rules rules) states) same ∙ none_lost (now p j).rules states ∙ sym (none_ended p j c differs same)

-- the keys that a command ends, Terminate apart
pub lost_by_states : (p : Setting) (j : Journal) (c : Command) (states : List KeyState) → c ≢ Terminate → keys_of states ≡ slots p j → AllOn p j states → rules_gone p j c states ≡ keys_ended p j c
lost_by_states p j (Monitor key amount level) states differs keys on = none_lost_by p j (Monitor key amount level) states differs (filter_all (now p j).rules)
lost_by_states p j (Stop key) states differs keys on = none_lost_by p j (Stop key) states differs (filter_all (now p j).rules)
lost_by_states p j (Install rule) states differs keys on = gone_by_states p j (Install rule) states differs refl keys on
lost_by_states p j (Activate name) states differs keys on = gone_by_states p j (Activate name) states differs refl keys on
lost_by_states p j (Remove name) states differs keys on = gone_by_states p j (Remove name) states differs refl keys on
lost_by_states p j (ReportNow key) states differs keys on = gone_by_states p j (ReportNow key) states differs refl keys on
lost_by_states p j (Triggers set) states differs keys on = gone_by_states p j (Triggers set) states differs refl keys on
lost_by_states p j (Notice kind value) states differs keys on = gone_by_states p j (Notice kind value) states differs refl keys on
lost_by_states p j (LoseBearer id) states differs keys on = gone_by_states p j (LoseBearer id) states differs refl keys on
lost_by_states p j Close states differs keys on = gone_by_states p j Close states differs refl keys on
lost_by_states p j Terminate states differs keys on = absurd (differs refl)

-- the keys that Terminate ends
pub ended_by_states : (p : Setting) (j : Journal) (states : List KeyState) → keys_of states ≡ slots p j → AllCount p j [] states → AllOn p j states →
    usage_of Terminated (λ s. s.on || nat_lt 0 s.unreported) states ≡ keys_ended p j Terminate
unfolding AllCount AllOn
ended_by_states p j states keys counts on =
    by_states Terminated (λ s. s.on || nat_lt 0 s.unreported) (λ k. is_among k (now p j).on || nat_lt 0 (unreported p j k)) states (ending_alike p j states on counts)
    ∙ ap (λ ks. map (λ k. Usage k Terminated) (filter (λ k. is_among k (now p j).on || nat_lt 0 (unreported p j k)) ks)) keys
