-- Each key that a command's own reports name has a slot.
use Rattle.std.proofs.Common.{◌≡◌, ℕ, Bool, true, false, List, [], ◌∷◌, ◌++◌, refl, map, inl, inr, nat_lt}
use Rattle.std.specs.Prelude.{◌||◌, ◌==◌, filter}
use Rattle.std.proofs.lemmas.Bool.{cases_Bool}
use Rattle.pcef_model.specs.declared.command.Command.{Command}
use Rattle.pcef_model.specs.declared.command.Command.TheVariants.{Install, Activate, Remove, Monitor, Stop, ReportNow, Triggers, Notice, LoseBearer, Close, Terminate}
use Rattle.pcef_model.specs.declared.entry.Entry.TheVariants as entry
use Rattle.pcef_model.specs.declared.report.Cause.{Cause}
use Rattle.pcef_model.specs.declared.report.Cause.TheVariants.{RulesGone, Terminated}
use Rattle.pcef_model.specs.declared.pending_report.PendingReport.{PendingReport}
use Rattle.pcef_model.specs.declared.pending_report.PendingReport.TheVariants.{Inactive, Usage}
use Rattle.pcef_model.specs.Setting.{Setting, same_name}
use Rattle.pcef_model.specs.Generations.{Generation}
use Rattle.pcef_model.specs.Commands.{is_among}
use Rattle.pcef_model.specs.Entries.{Journal}
use Rattle.pcef_model.specs.Journals.{now, slots, subscribed, unreported}
use Rattle.pcef_model.specs.Reports.{requested, keys_ended, in_order, inactive, is_subscribed, noticed, plan}
use Rattle.pcef_model.proofs.Sameness.{same_name_self}
use Rattle.pcef_usage.specs.Commands.{Asks}
use Rattle.pcef_usage.specs.PendingReports.{KnowsAll}
use Rattle.pcef_usage.proofs.Gone.{is_gone}
use Rattle.pcef_usage.proofs.Monitors.{slots_before}
use Rattle.pcef_usage.proofs.Places.{or_more}
use Rattle.pcef_usage.proofs.Slots.{slot_of_on}

-- a key keeps its slot
pub slots_stay : (p : Setting) (j : Journal) (c : Command) (k : List ℕ) → is_among k (slots p j) ≡ true → is_among k (slots p (entry.Command c ∷ j)) ≡ true
slots_stay p j c k has =
    elim (cases_Bool (is_among k (slots p (entry.Command c ∷ j)))) [
      | inl is ↦ is
      | inr isnt ↦ let absent : is_among k (slots p j) ≡ false = slots_before p j c k isnt in cc
    ]

knows_append : (keys : List (List ℕ)) (ts us : List PendingReport) → KnowsAll keys ts → KnowsAll keys us → KnowsAll keys (ts ++ us)
unfolding KnowsAll
knows_append keys [] us first second = second
knows_append keys (t ∷ ts) us first second = (first.0, knows_append keys ts us first.1 second)

-- ---- keys that end
knows_within : (cause : Cause) (test : List ℕ → Bool) (all keys : List (List ℕ)) → ((k : List ℕ) → is_among k keys ≡ true → is_among k all ≡ true) →
    KnowsAll all (map (λ k. Usage k cause) (filter test keys))
unfolding KnowsAll
knows_within cause test all [] within = tt
knows_within cause test all (k ∷ keys) within =
    let rest = knows_within cause test all keys (λ l has. within l (or_more (same_name l k) (is_among l keys) has)) in
    elim (cases_Bool (test k)) [
      | inl is ↦ rw is (within k (rw (same_name_self k) refl), rest)
      | inr isnt ↦ rw isnt rest
    ]

knows_ended : (p : Setting) (j : Journal) (c : Command) → KnowsAll (slots p (entry.Command c ∷ j)) (keys_ended p j c)
knows_ended p j Terminate =
    knows_within Terminated (λ k. is_among k (now p j).on || nat_lt 0 (unreported p j k)) (slots p (entry.Command Terminate ∷ j)) (slots p j) (slots_stay p j Terminate)
knows_ended p j (Install rule) = knows_within RulesGone (is_gone p j (Install rule)) (slots p (entry.Command (Install rule) ∷ j)) (slots p j) (slots_stay p j (Install rule))
knows_ended p j (Activate name) = knows_within RulesGone (is_gone p j (Activate name)) (slots p (entry.Command (Activate name) ∷ j)) (slots p j) (slots_stay p j (Activate name))
knows_ended p j (Remove name) = knows_within RulesGone (is_gone p j (Remove name)) (slots p (entry.Command (Remove name) ∷ j)) (slots p j) (slots_stay p j (Remove name))
knows_ended p j (Monitor l amount level) =
    knows_within RulesGone (is_gone p j (Monitor l amount level)) (slots p (entry.Command (Monitor l amount level) ∷ j)) (slots p j) (slots_stay p j (Monitor l amount level))
knows_ended p j (Stop l) = knows_within RulesGone (is_gone p j (Stop l)) (slots p (entry.Command (Stop l) ∷ j)) (slots p j) (slots_stay p j (Stop l))
knows_ended p j (ReportNow l) = knows_within RulesGone (is_gone p j (ReportNow l)) (slots p (entry.Command (ReportNow l) ∷ j)) (slots p j) (slots_stay p j (ReportNow l))
knows_ended p j (Triggers set) = knows_within RulesGone (is_gone p j (Triggers set)) (slots p (entry.Command (Triggers set) ∷ j)) (slots p j) (slots_stay p j (Triggers set))
knows_ended p j (Notice kind value) =
    knows_within RulesGone (is_gone p j (Notice kind value)) (slots p (entry.Command (Notice kind value) ∷ j)) (slots p j) (slots_stay p j (Notice kind value))
knows_ended p j (LoseBearer id) = knows_within RulesGone (is_gone p j (LoseBearer id)) (slots p (entry.Command (LoseBearer id) ∷ j)) (slots p j) (slots_stay p j (LoseBearer id))
knows_ended p j Close = knows_within RulesGone (is_gone p j Close) (slots p (entry.Command Close ∷ j)) (slots p j) (slots_stay p j Close)

-- ---- what is asked for, and what names no key
knows_asked : (p : Setting) (j : Journal) (c : Command) → Asks p j c → KnowsAll (slots p (entry.Command c ∷ j)) (requested c)
unfolding KnowsAll
knows_asked p j (Stop l) asks = (slots_stay p j (Stop l) l (slot_of_on p j l asks), tt)
knows_asked p j (ReportNow l) asks = (slots_stay p j (ReportNow l) l asks, tt)
knows_asked p j (Install rule) asks = tt
knows_asked p j (Activate name) asks = tt
knows_asked p j (Remove name) asks = tt
knows_asked p j (Monitor l amount level) asks = tt
knows_asked p j (Triggers set) asks = tt
knows_asked p j (Notice kind value) asks = tt
knows_asked p j (LoseBearer id) asks = tt
knows_asked p j Close asks = tt
knows_asked p j Terminate asks = tt

knows_names : (keys names : List (List ℕ)) → KnowsAll keys (map Inactive names)
unfolding KnowsAll
knows_names keys [] = tt
knows_names keys (n ∷ names) = (tt, knows_names keys names)

knows_inactive : (keys : List (List ℕ)) (g : Generation) (c : Command) → KnowsAll keys (inactive g c)
unfolding KnowsAll
knows_inactive keys g (LoseBearer id) = knows_names keys (in_order (map (λ r. r.properties.name) (filter (λ r. g.id_of r.properties.qos == id.0) g.rules)))
knows_inactive keys g (Install rule) = tt
knows_inactive keys g (Activate name) = tt
knows_inactive keys g (Remove name) = tt
knows_inactive keys g (Monitor l amount level) = tt
knows_inactive keys g (Stop l) = tt
knows_inactive keys g (ReportNow l) = tt
knows_inactive keys g (Triggers set) = tt
knows_inactive keys g (Notice kind value) = tt
knows_inactive keys g Close = tt
knows_inactive keys g Terminate = tt

knows_noticed : (keys : List (List ℕ)) (j : Journal) (c : Command) → KnowsAll keys (noticed j c)
unfolding KnowsAll
knows_noticed keys j (Notice kind value) = elim (cases_Bool (is_subscribed (subscribed j) kind)) [ inl is ↦ rw is (tt, tt) | inr isnt ↦ rw isnt tt ]
knows_noticed keys j (Install rule) = tt
knows_noticed keys j (Activate name) = tt
knows_noticed keys j (Remove name) = tt
knows_noticed keys j (Monitor l amount level) = tt
knows_noticed keys j (Stop l) = tt
knows_noticed keys j (ReportNow l) = tt
knows_noticed keys j (Triggers set) = tt
knows_noticed keys j (LoseBearer id) = tt
knows_noticed keys j Close = tt
knows_noticed keys j Terminate = tt

-- ---- all
pub knows_plan : (p : Setting) (j : Journal) (c : Command) → Asks p j c → KnowsAll (slots p (entry.Command c ∷ j)) (plan p j c)
knows_plan p j c asks =
    let keys : List (List ℕ) = slots p (entry.Command c ∷ j) in
    knows_append keys (inactive (now p j) c) (keys_ended p j c ++ (requested c ++ noticed j c)) (knows_inactive keys (now p j) c)
    (knows_append keys (keys_ended p j c) (requested c ++ noticed j c) (knows_ended p j c)
    (knows_append keys (requested c) (noticed j c) (knows_asked p j c asks) (knows_noticed keys j c)))
