-- What a new session counts, it counts anew.
use Rattle.std.proofs.Common.{◌≡◌, ◌∙◌, ◌+◌, ℕ, suc, List, [], ◌∷◌, ◌++◌, length, map, refl, ap, arith, inl, inr}
use Rattle.std.specs.Prelude.{if◌then◌else◌}
use Rattle.std.proofs.lemmas.Bool.{cases_Bool}
use Rattle.pcef_rule.specs.declared.rule.Properties.{Properties}
use Rattle.pcef_model.specs.declared.command.Command.{Command}
use Rattle.pcef_model.specs.declared.entry.Entry.TheVariants as entry
use Rattle.pcef_model.specs.ActiveRules.{Active, Detection, by_filters, by_shape}
use Rattle.pcef_model.specs.Entries.{Journal}
use Rattle.pcef_model.specs.Journals.{attach_count, gen, now, report_count, subscribed, tables}
use Rattle.pcef_model.specs.Lawful.{Lawful}
use Rattle.pcef_model.specs.Refusals.{was_closed}
use Rattle.pcef_model.specs.Setting.{Setting}
use Rattle.pcef_model.proofs.Decisive.{made_once}
use Rattle.pcef_renewal.specs.Accepting.{entered}
use Rattle.pcef_renewal.specs.Maps.{BeginsAnew}
use Rattle.pcef_renewal.specs.Renewal.{close_again, is_any, keys_on, monitor_again, renewal, rule_again, rule_again_by, rules_in_order, subscribe_again}
use Rattle.pcef_renewal.proofs.Fitting.{no_longer}
use Rattle.pcef_renewal.proofs.Likeness.{entered_append, no_rows_entered}
use Rattle.pcef_renewal.proofs.Order.{order_once, order_there}
use Rattle.pcef_renewal.proofs.PlacesAll.{order_all}

-- ---- commands make no report, and attach no worker
no_reports_entered : (cs : List Command) (k : Journal) → report_count (entered cs k) ≡ report_count k
no_reports_entered [] k = refl
no_reports_entered (c ∷ cs) k = no_reports_entered cs (entry.Command c ∷ k)

no_workers_entered : (cs : List Command) (k : Journal) → attach_count (entered cs k) ≡ attach_count k
unfolding attach_count
no_workers_entered [] k = refl
no_workers_entered (c ∷ cs) k = no_workers_entered cs (entry.Command c ∷ k)

-- ---- generations
gen_monitors : (p : Setting) (j : Journal) (ks : List (List ℕ)) (k : Journal) → gen (entered (map (monitor_again p j) ks) k) ≡ length ks + gen k
gen_monitors p j [] k = omega arith
gen_monitors p j (l ∷ ks) k = let rest = gen_monitors p j ks (entry.Command (monitor_again p j l) ∷ k) in omega (arith, rest)

gen_rule : (properties : Properties) (detection : Detection) (k : Journal) → gen (entry.Command (rule_again_by properties detection) ∷ k) ≡ suc (gen k)
gen_rule properties (by_filters filters) k = refl
gen_rule properties (by_shape shape) k = refl

gen_rules : (rs : List Active) (k : Journal) → gen (entered (map rule_again rs) k) ≡ length rs + gen k
gen_rules [] k = omega arith
gen_rules (r ∷ rs) k =
    let rest = gen_rules rs (entry.Command (rule_again r) ∷ k) in
    let one = gen_rule r.properties r.detection k in omega (arith, rest, one)

gen_subscribed : (j k : Journal) → gen (entered (subscribe_again j) k) ≡ gen k
gen_subscribed j k = elim (cases_Bool (is_any (subscribed j))) [ inl some ↦ rw some refl | inr none ↦ rw none refl ]

gen_closed : (j k : Journal) → gen (entered (close_again j) k) ≡ (if was_closed j then 1 else 0) + gen k
gen_closed j k = elim (cases_Bool (was_closed j)) [ inl closed ↦ rw closed (omega arith) | inr goes_on ↦ rw goes_on (omega arith) ]

-- ---- all
pub begins_anew : (p : Setting) (j : Journal) → Lawful p j → BeginsAnew p j (entered (renewal p j) [])
unfolding attach_count
begins_anew p j lawful =
    let ms : List Command = map (monitor_again p j) (keys_on p j) in
    let rs : List Command = map rule_again (rules_in_order p j) in
    let a : Journal = entered ms [] in
    let b : Journal = entered (subscribe_again j) a in
    let d : Journal = entered rs b in
    let whole : entered (renewal p j) [] ≡ entered (close_again j) d =
    entered_append ms (subscribe_again j ++ (rs ++ close_again j)) [] ∙ entered_append (subscribe_again j) (rs ++ close_again j) a ∙ entered_append rs (close_again j) b in
    let name : Active → List ℕ = λ r. r.properties.name in
    let less = no_longer name (rules_in_order p j) (now p j).rules (order_once p j) (order_there p j) in
    let more = no_longer name (now p j).rules (rules_in_order p j) (made_once p (tables j)) (order_all p j lawful) in
    record {
      no_rows = no_rows_entered (renewal p j) [];
      no_reports = no_reports_entered (renewal p j) [];
      no_workers = no_workers_entered (renewal p j) [];
      generations = ap gen whole ∙ omega (arith, gen_closed j d, gen_rules (rules_in_order p j) b, gen_subscribed j a, gen_monitors p j (keys_on p j) [], less, more);
    }
