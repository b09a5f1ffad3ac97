-- A new session takes the whole renewal.
use Rattle.std.proofs.Common.{◌≡◌, ◌≤◌, ◌+◌, ℕ, suc, List, [], ◌∷◌, ◌++◌, Contains, length, map, refl, sym, subst, arith, inl, inr}
use Rattle.std.specs.Prelude.{if◌then◌else◌}
use Rattle.std.proofs.lemmas.Bool.{cases_Bool}
use Rattle.std.proofs.lemmas.List.{append-nil}
use Rattle.pcef_model.specs.declared.command.Command.{Command}
use Rattle.pcef_model.specs.declared.command.Command.TheVariants.{Triggers}
use Rattle.pcef_model.specs.declared.entry.Entry.TheVariants as entry
use Rattle.pcef_model.specs.ActiveRules.{Active}
use Rattle.pcef_model.specs.Commands.{is_among}
use Rattle.pcef_model.specs.Entries.{Journal}
use Rattle.pcef_model.specs.Generations.{made_by, slots_of}
use Rattle.pcef_model.specs.Journals.{grant, now, slots, subscribed, tables}
use Rattle.pcef_model.specs.Lawful.{Lawful, at_first, by_command}
use Rattle.pcef_model.specs.Refusals.{limited_count, was_closed}
use Rattle.pcef_model.specs.Setting.{Setting}
use Rattle.pcef_model.proofs.Budget.{commands_are_within}
use Rattle.pcef_model.proofs.Members.{filter_from, first_there}
use Rattle.pcef_model.proofs.Names.{filter_once}
use Rattle.pcef_renewal.specs.Accepting.{AreTaken, entered}
use Rattle.pcef_renewal.specs.Renewal.{close_again, is_any, keys_on, monitor_again, renewal, rule_again, rules_in_order, subscribe_again}
use Rattle.pcef_renewal.proofs.ActiveFacts.{closed_empty}
use Rattle.pcef_renewal.proofs.Budget.{within_commands}
use Rattle.pcef_renewal.proofs.Fitting.{among_from, among_to, no_longer}
use Rattle.pcef_renewal.proofs.Order.{order_once, order_there}
use Rattle.pcef_renewal.proofs.Playing.{Playing, made_slots_once}
use Rattle.pcef_renewal.proofs.Returning.{take_rules}
use Rattle.pcef_renewal.proofs.Switching.{take_close, take_monitors, take_triggers}

-- ---- one list after the other
pub taken_append : (p : Setting) (cs ds : List Command) (k : Journal) → AreTaken p k cs → AreTaken p (entered cs k) ds → AreTaken p k (cs ++ ds)
taken_append p [] ds k one other = other
taken_append p (c ∷ cs) ds k one other = (one.0, taken_append p cs ds (entry.Command c ∷ k) one.1 other)

nothing_there : {X : Type 0} (xs : List X) → ((x : X) → Contains xs x → ⊥) → xs ≡ []
nothing_there [] none = refl
nothing_there (x ∷ xs) none = absurd (none x (first_there x xs))

-- ---- the beginning
begun : (p : Setting) (j : Journal) → Playing p j [] 0
unfolding grant limited_count slots_of made_by
begun p j = record {
  lawful = at_first;
  no_rows = refl;
  open_yet = refl;
  goes_on = refl;
  far = λ key. refl;
  count = refl;
  slots_there = λ key there. absurd cc;
  session = λ key there. absurd cc;
}

-- ---- rules and the end
rules_and_end : (p : Setting) (j : Journal) → Lawful p j → (k : Journal) (n : ℕ) → Playing p j k n → (now p k).rules ≡ [] → n + length (rules_in_order p j) ≤ p.commands →
    AreTaken p k (map rule_again (rules_in_order p j) ++ close_again j)
rules_and_end p j lawful k n playing empty room =
    elim (cases_Bool (was_closed j)) [
      | inl closed ↦
          let none : (now p j).rules ≡ [] = closed_empty p j lawful closed in
          let nothing : rules_in_order p j ≡ [] =
          nothing_there (rules_in_order p j) (λ r there. let w = subst (λ (rs : List Active). Contains rs r) none (order_there p j r there) in absurd (omega (arith, w.1))) in
          subst (λ (rs : List Active). AreTaken p k (map rule_again rs ++ close_again j)) (sym nothing) (rw closed (take_close p j k n playing empty, tt))
      | inr goes_on ↦
          let start : Playing p j k (n + 0) = subst (Playing p j k) (omega arith) playing in
          let all = take_rules p j lawful n [] (rules_in_order p j) k start empty (order_once p j) (order_there p j) room in
          rw goes_on (subst (AreTaken p k) (sym (append-nil (map rule_again (rules_in_order p j)))) all.taken)
    ]

-- ---- what it costs
fits_budget : (p : Setting) (j : Journal) → Lawful p j →
    length (keys_on p j) + (if is_any (subscribed j) then 1 else 0) + length (rules_in_order p j) ≤ p.commands
fits_budget p j lawful =
    let keys =
    no_longer (λ (x : List ℕ). x) (keys_on p j) (now p j).on (filter_once (λ (x : List ℕ). x) (λ key. is_among key (now p j).on) (slots p j) (made_slots_once p (tables j)))
    (λ key there. among_to key (now p j).on (filter_from (λ x. is_among x (now p j).on) (slots p j) key there).1) in
    let rules = no_longer (λ (r : Active). r.properties.name) (rules_in_order p j) (now p j).rules (order_once p j) (order_there p j) in
    omega (arith, keys, rules, within_commands p j lawful, commands_are_within p j lawful)

pub renewal_taken : (p : Setting) (j : Journal) → Lawful p j → AreTaken p [] (renewal p j)
unfolding slots_of made_by
renewal_taken p j lawful =
    let room = fits_budget p j lawful in
    let on : List (List ℕ) = keys_on p j in
    let keys =
    take_monitors p j lawful [] on [] (begun p j) refl refl (filter_once (λ (x : List ℕ). x) (λ key. is_among key (now p j).on) (slots p j) (made_slots_once p (tables j)))
    (λ key there. among_from key (slots p j) (filter_from (λ x. is_among x (now p j).on) (slots p j) key there).0) (omega (arith, room)) in
    let k : Journal = entered (map (monitor_again p j) on) [] in
    taken_append p (map (monitor_again p j) on) (subscribe_again j ++ (map rule_again (rules_in_order p j) ++ close_again j)) [] keys.taken
    (elim (cases_Bool (is_any (subscribed j))) [
      | inr none ↦
          let less : length on + 0 + length (rules_in_order p j) ≤ p.commands = rw none at room in
          rw none (rules_and_end p j lawful k (0 + length on) keys.playing keys.empty (omega (arith, less)))
      | inl some ↦
          let more : length on + 1 + length (rules_in_order p j) ≤ p.commands = rw some at room in
          let one = take_triggers p j k (0 + length on) keys.playing lawful (omega (arith, more)) (subscribed j) in
          rw some (one.0, rules_and_end p j lawful (entry.Command (Triggers (subscribed j)) ∷ k) (suc (0 + length on)) one.1 keys.empty (omega (arith, more)))
    ])

-- a journal stays lawful as commands are taken
pub lawful_entered : (p : Setting) (cs : List Command) (k : Journal) → Lawful p k → AreTaken p k cs → Lawful p (entered cs k)
lawful_entered p [] k lawful taken = lawful
lawful_entered p (c ∷ cs) k lawful taken =
    lawful_entered p cs (entry.Command c ∷ k) (subst (Lawful p) taken.0.quiet (by_command k c lawful taken.0.accepted taken.0.changing)) taken.1
