-- The commands that make a new session go on like an old one (own choice): its renewal. They name its keys that are on,
-- its subscriptions, its active rules, and its end.
use Rattle.std.specs.Prelude.{ℕ, ◌+◌, ◌-◌, ◌==◌, Bool, ◌||◌, List, [], ◌∷◌, ◌++◌, Option, Some, None, drop, filter, length, map, nat_lt, take, if◌then◌else◌}
use Rattle.pcef_rule.specs.declared.rule.Properties.{Properties}
use Rattle.pcef_model.specs.declared.command.Command.{Command}
use Rattle.pcef_model.specs.declared.command.Command.TheVariants.{Activate, Close, Install, Monitor, Triggers}
use Rattle.pcef_model.specs.declared.trigger.TriggerSet.{TriggerSet}
use Rattle.pcef_model.specs.ActiveRules.{Active, Detection, by_filters, by_shape}
use Rattle.pcef_model.specs.Bearers.{default_id, other_ids}
use Rattle.pcef_model.specs.Commands.{is_among}
use Rattle.pcef_model.specs.Entries.{Journal}
use Rattle.pcef_model.specs.Journals.{grant, level_of, now, slots, subscribed, unreported}
use Rattle.pcef_model.specs.Refusals.{is_bearer, was_closed}
use Rattle.pcef_model.specs.Setting.{Setting}

-- ---- keys (TS 29.212, clauses 4.5.16 and 4.5.17)
-- a grant that no session reaches: 2^64 - 1 octets
abbrev pub out_of_reach : ℕ
out_of_reach = 18446744073709551615

-- what is left of a grant after these octets, and 1 where nothing is; so a grant is one over all sessions
abbrev pub rest_of : ℕ → ℕ → ℕ
rest_of amount octets = if nat_lt octets amount then amount - octets else 1

-- the grant that a key gets; one that is on without a grant was reported, and isn't to report again
abbrev pub grant_after : Option ℕ → ℕ → ℕ
grant_after None octets = out_of_reach
grant_after (Some amount) octets = rest_of amount octets

abbrev pub monitor_again : Setting → Journal → List ℕ → Command
monitor_again p j key = Monitor key (grant_after (grant j key) (unreported p j key)) (level_of (now p j) key)

-- the keys that are on, in slot order
abbrev pub keys_on : Setting → Journal → List (List ℕ)
keys_on p j = filter (λ key. is_among key (now p j).on) (slots p j)

-- ---- subscriptions (TS 29.212, clause 5.3.7)
abbrev pub is_any : TriggerSet → Bool
is_any set = set.usage_report || set.rat_change || set.plmn_change || set.user_location_change || set.ue_time_zone_change

abbrev pub subscribe_again : Journal → List Command
subscribe_again j = if is_any (subscribed j) then Triggers (subscribed j) ∷ [] else []

-- ---- rules (TS 23.203, clause 6.3.2)
-- a dynamic rule is installed as it is, a predefined one activated by its name
abbrev pub rule_again_by : Properties → Detection → Command
rule_again_by properties (by_filters filters) = Install (record { properties = properties; filters = filters })
rule_again_by properties (by_shape shape) = Activate properties.name

abbrev pub rule_again : Active → Command
rule_again r = rule_again_by r.properties r.detection

-- the rules on a bearer, in the order in which they became active
abbrev pub rules_on : Setting → Journal → ℕ → List Active
rules_on p j id = filter (λ r. (now p j).id_of r.properties.qos == id) (now p j).rules

-- the rules on one bearer after the other
abbrev pub rules_on_each : Setting → Journal → List ℕ → List Active
rules_on_each p j [] = []
rules_on_each p j (id ∷ ids) = rules_on p j id ++ rules_on_each p j ids

-- ---- the order of bearers
-- the bearers of rules beside the default one
abbrev pub bearers_used : Setting → Journal → List ℕ
bearers_used p j = filter (λ id. is_bearer p j id) other_ids

-- The new session numbers them from 6 on. A bearer that has one of these numbers keeps it; the places that are left go to
-- those beyond, in order.
abbrev pub placed : (ℕ → Bool) → List ℕ → List ℕ → List ℕ
placed is_used [] beyond = []
placed is_used (n ∷ numbers) beyond =
    if is_used n then n ∷ placed is_used numbers beyond else (take 1 beyond ++ placed is_used numbers (drop 1 beyond))

abbrev pub placed_from : (ℕ → Bool) → List ℕ → List ℕ
placed_from is_used used = placed is_used (take (length used) other_ids) (filter (λ id. nat_lt (default_id + length used) id) used)

abbrev pub places : Setting → Journal → List ℕ
places p j = placed_from (λ id. is_bearer p j id) (bearers_used p j)

-- bearer by bearer, those of the default one first
abbrev pub rules_in_order : Setting → Journal → List Active
rules_in_order p j = rules_on_each p j (default_id ∷ places p j)

-- ---- the end
abbrev pub close_again : Journal → List Command
close_again j = if was_closed j then Close ∷ [] else []

-- ---- all
abbrev pub renewal : Setting → Journal → List Command
renewal p j = map (monitor_again p j) (keys_on p j) ++ (subscribe_again j ++ (map rule_again (rules_in_order p j) ++ close_again j))
