-- Worked examples of why a rule can't become active, worked out by hand. That GBR bearers have rates and others none is
-- from TS 23.203, clauses 6.1.7.2 and 6.2.2.2; capacities, slots and the order of refusals are own choices. Each is
-- proved by working the definitions out.
use Rattle.std.proofs.Common.{◌≡◌, refl, ℕ, zero, suc, true, false, List, [], ◌∷◌, ◌++◌, Option, None, Some, map}
use Rattle.std.specs.Prelude.{⊤, codes}
use Rattle.pcef_catalog.specs.declared.shape.Test.TheVariants.{Proto}
use Rattle.pcef_rule.specs.Definition.{Definition}
use Rattle.pcef_rule.specs.declared.gate.Gate.TheVariants.{Enabled}
use Rattle.pcef_rule.specs.declared.quantity.Qos.{Qos}
use Rattle.pcef_rule.specs.declared.quantity.Rates.{Rates}
use Rattle.pcef_model.specs.declared.answer.Refusal.{Refusal}
use Rattle.pcef_model.specs.declared.answer.Refusal.TheVariants.{CommandsFull, KeysFull, LevelClash, NameIsPredefined, OverCapacityDown, OverCapacityUp, RatesMissing, RatesNotWanted, RulesFull, TooManyBearers, UnknownQci, ZeroGrant}
use Rattle.pcef_model.specs.declared.command.Command.TheVariants.{Close, Install, Monitor, Triggers}
use Rattle.pcef_model.specs.declared.level.Level.TheVariants.{Rule, Session}
use Rattle.pcef_model.specs.Bearers.{sum_down, sum_up}
use Rattle.pcef_model.specs.Entries.{Journal}
use Rattle.pcef_model.specs.Journals.{no_triggers}
use Rattle.pcef_model.specs.Refusals.{first_of, limited_count, refusals}
use Rattle.pcef_model.specs.Setting.{Setting}
use Rattle.pcef_model.proofs.ExampleSession.{Event, accept, history, qos_of, rule_of, session_on, vid, web, worked_out}

unfoldable refusals_worked_out : ⊤
unfolding limited_count sum_down sum_up worked_out
refusals_worked_out = tt

-- a session with a capacity of 64,000 bit/s in each direction, in which `dns` is predefined
abbrev small : Setting
small = record (session_on 9) {
  capacity = record { up = 64000; down = 64000 };
  catalog = record { properties = (rule_of 9 Enabled (codes "dns") 17 vid).properties; shape = (Proto 17 ∷ []) ∷ [] } ∷ [];
}

-- a rule of this name and key, with these QCI, ARP and rates
abbrev asking : List ℕ → List ℕ → Qos → Option Rates → Definition
asking name key qos rates = record {
  properties = record (rule_of 9 Enabled name 17 key).properties { qos = qos; rates = rates };
  filters = (rule_of 9 Enabled name 17 key).filters;
}

abbrev rates_of : ℕ → ℕ → Option Rates
rates_of up down = Some (record { up = up; down = down })

-- after these events the rule can't be installed, for this reason
abbrev IsRefused : List Event → Definition → Refusal → Type 0
IsRefused events rule r = first_of (refusals small (history small events) (Install rule)) ≡ Some r

-- ---- one reason
a_name_of_the_catalog : IsRefused [] (asking (codes "dns") vid (qos_of 9) None) NameIsPredefined
unfolding refusals_worked_out
a_name_of_the_catalog = refl

an_undeclared_qci : IsRefused [] (asking web vid (qos_of 10) None) UnknownQci
unfolding refusals_worked_out
an_undeclared_qci = refl

a_voice_call_without_rates : IsRefused [] (asking web vid (qos_of 1) None) RatesMissing
unfolding refusals_worked_out
a_voice_call_without_rates = refl

best_effort_with_rates : IsRefused [] (asking web vid (qos_of 9) (rates_of 1 1)) RatesNotWanted
unfolding refusals_worked_out
best_effort_with_rates = refl

one_bit_over_the_uplink : IsRefused [] (asking web vid (qos_of 1) (rates_of 64001 1)) OverCapacityUp
unfolding refusals_worked_out
one_bit_over_the_uplink = refl

one_bit_over_the_downlink : IsRefused [] (asking web vid (qos_of 1) (rates_of 1 64001)) OverCapacityDown
unfolding refusals_worked_out
one_bit_over_the_downlink = refl

abbrev key_of : ℕ → List ℕ
key_of n = codes "key" ++ n ∷ []

-- eight keys, each with its slot
abbrev eight_keys : List Event
eight_keys = map (λ n. accept (Monitor (key_of n) 9 Rule)) (1 ∷ 2 ∷ 3 ∷ 4 ∷ 5 ∷ 6 ∷ 7 ∷ 8 ∷ [])

a_ninth_key : IsRefused eight_keys (asking web vid (qos_of 9) None) KeysFull
unfolding refusals_worked_out
a_ninth_key = refl

a_key_of_the_session : IsRefused (accept (Monitor vid 9 Session) ∷ []) (asking web vid (qos_of 9) None) LevelClash
unfolding refusals_worked_out
a_key_of_the_session = refl

-- ---- of two reasons the first is given
a_name_of_the_catalog_and_a_ninth_key : IsRefused eight_keys (asking (codes "dns") vid (qos_of 9) None) NameIsPredefined
unfolding refusals_worked_out
a_name_of_the_catalog_and_a_ninth_key = refl

a_ninth_key_and_an_undeclared_qci : IsRefused eight_keys (asking web vid (qos_of 10) None) KeysFull
unfolding refusals_worked_out
a_ninth_key_and_an_undeclared_qci = refl

a_key_of_the_session_and_no_rates : IsRefused (accept (Monitor vid 9 Session) ∷ []) (asking web vid (qos_of 1) None) LevelClash
unfolding refusals_worked_out
a_key_of_the_session_and_no_rates = refl

over_both_capacities : IsRefused [] (asking web vid (qos_of 1) (rates_of 64001 64001)) OverCapacityUp
unfolding refusals_worked_out
over_both_capacities = refl

no_octets_for_a_key_of_a_rule :
    first_of (refusals small (history small (accept (Install (asking web vid (qos_of 9) None)) ∷ [])) (Monitor vid 0 Session))
    ≡ Some ZeroGrant
unfolding refusals_worked_out
no_octets_for_a_key_of_a_rule = refl

-- ---- what is full
abbrev with_level : ℕ → Qos
with_level level = record { qci = record { 0 = 9 }; arp = record { level = level; capability = false; vulnerability = true } }

-- ten rules, each with an ARP level of its own, on bearers 6 to 15
abbrev ten_bearers : List Event
ten_bearers = map (λ n. accept (Install (asking (key_of n) vid (with_level n) None))) (1 ∷ 2 ∷ 3 ∷ 4 ∷ 5 ∷ 6 ∷ 7 ∷ 9 ∷ 10 ∷ 11 ∷ [])

an_eleventh_bearer : IsRefused ten_bearers (asking web vid (with_level 12) None) TooManyBearers
unfolding refusals_worked_out
an_eleventh_bearer = refl

abbrev numbers_below : ℕ → List ℕ
numbers_below zero = []
numbers_below (suc n) = n ∷ numbers_below n

-- sixty-four rules on the default bearer
abbrev sixty_four_rules : List Event
sixty_four_rules = map (λ n. accept (Install (asking (key_of n) vid (qos_of 9) None))) (numbers_below 64)

a_sixty_fifth_rule : IsRefused sixty_four_rules (asking web vid (qos_of 9) None) RulesFull
unfolding refusals_worked_out
a_sixty_fifth_rule = refl

-- one that is active is modified all the same
a_rule_again : first_of (refusals small (history small sixty_four_rules) (Install (asking (key_of 7) vid (qos_of 9) None))) ≡ None
unfolding refusals_worked_out
a_rule_again = refl

-- a session that takes two commands, and has taken two that make no generation
abbrev of_two_commands : Setting
of_two_commands = record small { commands = 2 }

abbrev two_subscriptions : Journal
two_subscriptions = history of_two_commands (accept (Triggers no_triggers) ∷ accept (Triggers no_triggers) ∷ [])

a_third_command : first_of (refusals of_two_commands two_subscriptions (Triggers no_triggers)) ≡ Some CommandsFull
unfolding refusals_worked_out
a_third_command = refl

-- it can be closed all the same
a_close_beyond_the_budget : first_of (refusals of_two_commands two_subscriptions Close) ≡ None
unfolding refusals_worked_out
a_close_beyond_the_budget = refl
