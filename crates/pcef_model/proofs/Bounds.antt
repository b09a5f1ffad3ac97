-- How many reports an event brings at most.
use Rattle.std.proofs.Common.{◌≤◌, ◌+◌, ℕ, Bool, List, [], ◌∷◌, ◌++◌, length, ◌≡◌, refl, ap, ◌∙◌, arith, suc, map, inl, inr, nat_lt}
use Rattle.std.specs.Prelude.{filter, not, ◌&&◌, ◌||◌, ◌==◌}
use Rattle.std.specs.Ordering.{is_lt, nat_cmp}
use Rattle.std.specs.Cmp.Lexicographic.{slice_cmp}
use Rattle.std.proofs.lemmas.Bool.{cases_Bool}
use Rattle.std.proofs.lemmas.List.{length-append, length-map}
use Rattle.pcef_model.specs.declared.command.Command.{Command}
use Rattle.pcef_model.specs.declared.command.Command.TheVariants.{Install, Activate, Remove, Monitor, Stop, ReportNow, Triggers, Notice, LoseBearer, Close, Terminate}
use Rattle.pcef_model.specs.declared.report.Cause.{Cause}
use Rattle.pcef_model.specs.declared.report.Cause.TheVariants.{RulesGone, Terminated, Threshold}
use Rattle.pcef_model.specs.declared.pending_report.PendingReport.TheVariants.{Inactive, Usage}
use Rattle.pcef_model.specs.Setting.{Setting}
use Rattle.pcef_model.specs.ActiveRules.{has_key}
use Rattle.pcef_model.specs.Generations.{Generation, rules_after}
use Rattle.pcef_model.specs.Commands.{is_among, switched}
use Rattle.pcef_model.specs.Entries.{Journal}
use Rattle.pcef_model.specs.Journals.{now, slots, subscribed, unreported}
use Rattle.pcef_model.specs.Reports.{requested, keys_ended, in_order, inactive, insert_name, is_reached, is_subscribed, noticed, plan, thresholds}
use Rattle.pcef_base.proofs.Keeping.{filter_length}

-- ---- rules that become inactive
length-insert_name : (n : List ℕ) (ns : List (List ℕ)) → length (insert_name n ns) ≡ suc (length ns)
length-insert_name n [] = refl
length-insert_name n (m ∷ ns) =
    elim (cases_Bool (is_lt (slice_cmp nat_cmp n m))) [
      | inl before ↦ rw before refl
      | inr after ↦ rw after (ap suc (length-insert_name n ns))
    ]

length-in_order : (ns : List (List ℕ)) → length (in_order ns) ≡ length ns
length-in_order [] = refl
length-in_order (n ∷ ns) = length-insert_name n (in_order ns) ∙ ap suc (length-in_order ns)

few_inactive : (g : Generation) (c : Command) → length (inactive g c) ≤ length g.rules
few_inactive g (LoseBearer id) =
    let told = length-map (in_order (map (λ r. r.properties.name) (filter (λ r. g.id_of r.properties.qos == id.0) g.rules))) Inactive in
    let ordered = length-in_order (map (λ r. r.properties.name) (filter (λ r. g.id_of r.properties.qos == id.0) g.rules)) in
    let named = length-map (filter (λ r. g.id_of r.properties.qos == id.0) g.rules) (λ r. r.properties.name) in
    let kept = filter_length (λ r. g.id_of r.properties.qos == id.0) g.rules in omega (arith, told, ordered, named, kept)
few_inactive g (Install rule) = omega arith
few_inactive g (Activate name) = omega arith
few_inactive g (Remove name) = omega arith
few_inactive g (Monitor key grant level) = omega arith
few_inactive g (Stop key) = omega arith
few_inactive g (ReportNow key) = omega arith
few_inactive g (Triggers set) = omega arith
few_inactive g (Notice kind value) = omega arith
few_inactive g Close = omega arith
few_inactive g Terminate = omega arith

-- ---- keys
few_within : (cause : Cause) (test : List ℕ → Bool) (keys : List (List ℕ)) → length (map (λ k. Usage k cause) (filter test keys)) ≤ length keys
few_within cause test keys = omega (arith, length-map (filter test keys) (λ k. Usage k cause), filter_length test keys)

abbrev loses_rules : Setting → Journal → Command → List ℕ → Bool
loses_rules p j c k = is_among k (switched c (now p j).on) && has_key k (now p j).rules && not (has_key k (rules_after p (now p j) c))

few_ended : (p : Setting) (j : Journal) (c : Command) → length (keys_ended p j c) ≤ length (slots p j)
few_ended p j Terminate = few_within Terminated (λ k. is_among k (now p j).on || nat_lt 0 (unreported p j k)) (slots p j)
few_ended p j (Install rule) = few_within RulesGone (loses_rules p j (Install rule)) (slots p j)
few_ended p j (Activate name) = few_within RulesGone (loses_rules p j (Activate name)) (slots p j)
few_ended p j (Remove name) = few_within RulesGone (loses_rules p j (Remove name)) (slots p j)
few_ended p j (Monitor key grant level) = few_within RulesGone (loses_rules p j (Monitor key grant level)) (slots p j)
few_ended p j (Stop key) = few_within RulesGone (loses_rules p j (Stop key)) (slots p j)
few_ended p j (ReportNow key) = few_within RulesGone (loses_rules p j (ReportNow key)) (slots p j)
few_ended p j (Triggers set) = few_within RulesGone (loses_rules p j (Triggers set)) (slots p j)
few_ended p j (Notice kind value) = few_within RulesGone (loses_rules p j (Notice kind value)) (slots p j)
few_ended p j (LoseBearer id) = few_within RulesGone (loses_rules p j (LoseBearer id)) (slots p j)
few_ended p j Close = few_within RulesGone (loses_rules p j Close) (slots p j)

-- ---- all
few_else : (j : Journal) (c : Command) → length (requested c) + length (noticed j c) ≤ 1
few_else j (Notice kind value) = elim (cases_Bool (is_subscribed (subscribed j) kind)) [ inl is ↦ rw is (omega arith) | inr isnt ↦ rw isnt (omega arith) ]
few_else j (Install rule) = omega arith
few_else j (Activate name) = omega arith
few_else j (Remove name) = omega arith
few_else j (Monitor key grant level) = omega arith
few_else j (Stop key) = omega arith
few_else j (ReportNow key) = omega arith
few_else j (Triggers set) = omega arith
few_else j (LoseBearer id) = omega arith
few_else j Close = omega arith
few_else j Terminate = omega arith

-- a command has at most one report for each rule and each key, and one more
pub few_planned : (p : Setting) (j : Journal) (c : Command) → length (plan p j c) ≤ length (now p j).rules + length (slots p j) + 1
few_planned p j c =
    let first = length-append (inactive (now p j) c) (keys_ended p j c ++ (requested c ++ noticed j c)) in
    let second = length-append (keys_ended p j c) (requested c ++ noticed j c) in
    let third = length-append (requested c) (noticed j c) in
    omega (arith, first, second, third, few_inactive (now p j) c, few_ended p j c, few_else j c)

-- and at most one threshold for each key
pub few_thresholds : (p : Setting) (j : Journal) → length (thresholds p j) ≤ length (slots p j)
unfolding thresholds
few_thresholds p j =
    elim (cases_Bool (subscribed j).usage_report) [
      | inl is ↦ rw is (few_within Threshold (is_reached p j) (slots p j))
      | inr isnt ↦ rw isnt (omega arith)
    ]
