-- The refusals of each event: of the conditions that hold, the first in the order of the lists decides
-- (own choice).
use Rattle.std.specs.Prelude.{filter, ℕ, ◌+◌, ◌==◌, Bool, true, false, not, ◌&&◌, ◌||◌, List, [], ◌∷◌, ◌++◌, Option, Some, None, is_none, is_some, length, nat_le, nat_lt, if◌then◌else◌}
use Rattle.std.specs.List.{list_any}
use Rattle.pcef_rule.specs.declared.qci.Kind.{Kind}
use Rattle.pcef_rule.specs.declared.quantity.Qos.{Qos}
use Rattle.pcef_rule.specs.declared.quantity.Sums.{Sums}
use Rattle.pcef_rule.specs.declared.quantity.Rates.{Rates}
use Rattle.pcef_rule.specs.declared.rule.Properties.{Properties}
use Rattle.pcef_rule.specs.QciKinds.{kind_of}
use Rattle.pcef_catalog.specs.declared.listing.Offer.{Offer}
use Rattle.pcef_model.specs.declared.command.Command.{Command}
use Rattle.pcef_model.specs.declared.command.Command.TheVariants.{Install, Activate, Remove, Monitor, Stop, ReportNow, LoseBearer, Close, Terminate}
use Rattle.pcef_model.specs.declared.level.Level.{Level}
use Rattle.pcef_model.specs.declared.level.Level.TheVariants.{Rule}
use Rattle.pcef_model.specs.declared.entry.Entry.{Entry}
use Rattle.pcef_model.specs.declared.entry.Entry.TheVariants as entry
use Rattle.pcef_model.specs.Setting.{Setting, most_keys, most_rules, offer_named, same_level, same_qos}
use Rattle.pcef_model.specs.Bearers.{default_id, is_gbr, is_non_gbr, rate_down, rate_up, sum_down, sum_up}
use Rattle.pcef_model.specs.ActiveRules.{Active, is_named, without}
use Rattle.pcef_model.specs.Generations.{Generation, free_id, has_bearer, rules_after}
use Rattle.pcef_model.specs.Commands.{is_among}
use Rattle.pcef_model.specs.Entries.{Journal, rows}
use Rattle.pcef_model.specs.Journals.{attach_count, attached, level_of, now, slots}
use Rattle.pcef_model.specs.declared.answer.OpenFault.{OpenFault}
use Rattle.pcef_model.specs.declared.answer.OpenFault.TheVariants as opening
use Rattle.pcef_model.specs.declared.answer.Refusal.{Refusal}
use Rattle.pcef_model.specs.declared.answer.Refusal.TheVariants as refusal
use Rattle.pcef_model.specs.declared.answer.AttachFault.{AttachFault}
use Rattle.pcef_model.specs.declared.answer.AttachFault.TheVariants as attach
use Rattle.pcef_model.specs.declared.answer.FlushRefusal.{FlushRefusal}
use Rattle.pcef_model.specs.declared.answer.FlushRefusal.TheVariants as flush

-- a condition, and what is answered where it holds and none before it does
abbrev pub Conditions : Type 0 → Type 0
Conditions R = List (Bool × R)

abbrev pub first_of : {R : Type 0} → Conditions R → Option R
first_of [] = None
first_of (c ∷ cs) = if c.0 then Some c.1 else first_of cs

-- ---- what was said before
abbrev pub is_close : Entry → Bool
is_close (entry.Command Close) = true
is_close _ = false

abbrev pub is_terminate : Entry → Bool
is_terminate (entry.Command Terminate) = true
is_terminate _ = false

abbrev pub was_closed : Journal → Bool
was_closed j = list_any is_close j

abbrev pub was_terminated : Journal → Bool
was_terminated j = list_any is_terminate j

-- the commands that have a budget: all but Close and Terminate
abbrev pub is_limited : Entry → Bool
is_limited (entry.Command Close) = false
is_limited (entry.Command Terminate) = false
is_limited (entry.Command c) = true
is_limited _ = false

unfoldable pub limited_count : Journal → ℕ
limited_count [] = 0
limited_count (e ∷ before) = (if is_limited e then 1 else 0) + limited_count before

abbrev pub end_refusals : Journal → Conditions Refusal
end_refusals j = (was_terminated j, refusal.Terminated) ∷ (was_closed j, refusal.Closed) ∷ []

abbrev pub common_refusals : Setting → Journal → Conditions Refusal
common_refusals p j = end_refusals j ++ (nat_le p.commands (limited_count j), refusal.CommandsFull) ∷ []

-- ---- binding (TS 23.203, clause 6.1.1.4; capacity is an own choice)
-- why a rule with this pair and these rates can't be bound beside others: whether it finds a bearer, and what the
-- others' rates sum up to
abbrev pub bind_refusals : List (Option Kind) → Sums → Qos → Option Rates → Bool → ℕ → ℕ → Conditions Refusal
bind_refusals qcis capacity q rates finds_none up down =
    (is_none (kind_of qcis q.qci.0), refusal.UnknownQci) ∷
    (is_gbr (kind_of qcis q.qci.0) && is_none rates, refusal.RatesMissing) ∷
    (is_non_gbr (kind_of qcis q.qci.0) && is_some rates, refusal.RatesNotWanted) ∷
    (finds_none, refusal.TooManyBearers) ∷
    (nat_lt capacity.up (up + rate_up rates), refusal.OverCapacityUp) ∷
    (nat_lt capacity.down (down + rate_down rates), refusal.OverCapacityDown) ∷ []

-- the sums of the guaranteed rates of active rules
abbrev pub total_up : List Active → ℕ
total_up rules = sum_up (λ r. r.properties.rates) rules

abbrev pub total_down : List Active → ℕ
total_down rules = sum_down (λ r. r.properties.rates) rules

-- both directions
abbrev pub total : List Active → Sums
total rules = record { up = total_up rules; down = total_down rules }

-- what the guaranteed rates of all rules of a session sum up to now
abbrev pub total_now : Setting → Journal → Sums
total_now p j = total (now p j).rules

-- what the bearer of a pair guarantees: the sums over the active rules with that pair (TS 23.203, clause 6.1.1.4)
abbrev pub rate_of : Generation → Qos → Sums
rate_of g q = record {
  up = total_up (filter (λ r. same_qos q r.properties.qos) g.rules);
  down = total_down (filter (λ r. same_qos q r.properties.qos) g.rules);
}

-- a new pair of QCI and ARP needs a free id, beside the rules that stay
abbrev pub finds_no_bearer : Setting → Generation → Properties → List Active → Bool
finds_no_bearer p g rule others = not (has_bearer p others rule.qos) && is_none (free_id p g others)

-- the refusals of a binding, beside the rules that stay
abbrev pub bindings : Setting → Generation → Properties → List Active → Conditions Refusal
bindings p g rule others =
    bind_refusals p.qcis p.capacity rule.qos rule.rates (finds_no_bearer p g rule others) (total_up others) (total_down others)

-- ---- rules and keys
abbrev pub is_active : Setting → Journal → List ℕ → Bool
is_active p j name = list_any (is_named name) (now p j).rules

abbrev pub is_new_key : Option (List ℕ) → List (List ℕ) → Bool
is_new_key None keys = false
is_new_key (Some key) keys = not (is_among key keys)

-- a key that has no slot finds none
abbrev pub finds_no_slot : Setting → Journal → Option (List ℕ) → Bool
finds_no_slot p j key = is_new_key key (slots p j) && nat_le most_keys (length (slots p j))

-- a key that has a slot has another level than this one
abbrev pub clashes : Setting → Journal → Level → Option (List ℕ) → Bool
clashes p j level None = false
clashes p j level (Some key) = is_among key (slots p j) && not (same_level level (level_of (now p j) key))

-- what keeps a rule from becoming active; a modification takes no further place
abbrev pub becoming_active : Setting → Journal → Properties → Conditions Refusal
becoming_active p j rule =
    (not (is_active p j rule.name) && nat_le most_rules (length (now p j).rules), refusal.RulesFull) ∷
    (clashes p j Rule rule.key, refusal.LevelClash) ∷
    (finds_no_slot p j rule.key, refusal.KeysFull) ∷
    bindings p (now p j) rule (without rule.name (now p j).rules)

abbrev pub becoming_active_if : Setting → Journal → Option Offer → Conditions Refusal
becoming_active_if p j None = []
becoming_active_if p j (Some o) = becoming_active p j o.properties

-- some active rule is bound to the bearer with this id
abbrev pub is_bearer : Setting → Journal → ℕ → Bool
is_bearer p j id = list_any (λ r. (now p j).id_of r.properties.qos == id) (now p j).rules

-- ---- commands
-- what refuses a command whatever it asks for: Close and Terminate have no budget, and a closed session can still be
-- terminated
abbrev pub first_refusals : Setting → Journal → Command → Conditions Refusal
first_refusals p j Close = end_refusals j
first_refusals p j Terminate = (was_terminated j, refusal.Terminated) ∷ []
first_refusals p j _ = common_refusals p j

-- what refuses a command for what it asks for
abbrev pub own_refusals : Setting → Journal → Command → Conditions Refusal
own_refusals p j (Install rule) =
    (is_some (offer_named p rule.properties.name), refusal.NameIsPredefined) ∷ becoming_active p j rule.properties
own_refusals p j (Activate name) =
    (is_none (offer_named p name), refusal.UnknownRule) ∷
    (if is_active p j name then [] else becoming_active_if p j (offer_named p name))
own_refusals p j (Remove name) = (not (is_active p j name), refusal.UnknownRule) ∷ []
own_refusals p j (Stop key) = (not (is_among key (now p j).on), refusal.UnknownKey) ∷ []
own_refusals p j (ReportNow key) = (not (is_among key (slots p j)), refusal.UnknownKey) ∷ []
own_refusals p j (Monitor key amount level) =
    (amount == 0, refusal.ZeroGrant) ∷ (clashes p j level (Some key), refusal.LevelClash) ∷ (finds_no_slot p j (Some key), refusal.KeysFull) ∷ []
own_refusals p j (LoseBearer id) =
    (not (id.0 == default_id) && not (is_bearer p j id.0), refusal.UnknownBearer) ∷
    (id.0 == default_id, refusal.DefaultBearer) ∷ []
own_refusals p j Terminate =
    (nat_lt 0 (length (attached j)), refusal.WorkersAttached (length (attached j))) ∷ []
own_refusals p j _ = []

abbrev pub refusals : Setting → Journal → Command → Conditions Refusal
refusals p j c = first_refusals p j c ++ own_refusals p j c

-- ---- rooms (own choice): a session may share a pool of rates with others, which then leaves room for so much
-- rates that are over a room
abbrev pub over_room : Sums → Sums → Conditions Refusal
over_room room rates = (nat_lt room.up rates.up, refusal.PoolUp) ∷ (nat_lt room.down rates.down, refusal.PoolDown) ∷ []

-- what the rates of a session would sum up to after a command
abbrev pub total_after : Setting → Journal → Command → Sums
total_after p j c = total (rules_after p (now p j) c)

-- a command that makes a rule active is refused where the rates would then be over the room
abbrev pub room_refusals : Setting → Journal → Command → Sums → Conditions Refusal
room_refusals p j (Install rule) room = over_room room (total_after p j (Install rule))
room_refusals p j (Activate name) room = if is_active p j name then [] else over_room room (total_after p j (Activate name))
room_refusals p j _ room = []

-- all refusals, of a session that has a room or has none
abbrev pub refusals_within : Setting → Journal → Command → Option Sums → Conditions Refusal
refusals_within p j c None = refusals p j c
refusals_within p j c (Some room) = refusals p j c ++ room_refusals p j c room

-- ---- workers (own choice)
abbrev pub is_attached : Journal → ℕ → Bool
is_attached j worker = list_any (λ w. w == worker) (attached j)

abbrev pub most_workers : ℕ
most_workers = 16

abbrev pub attach_faults : Journal → Conditions AttachFault
attach_faults j = (nat_le most_workers (attach_count j), attach.NoPlace) ∷ (was_closed j || was_terminated j, attach.Closed) ∷ []

-- `count` rows to be taken over
abbrev pub flush_refusals : Setting → Journal → ℕ → ℕ → Conditions FlushRefusal
flush_refusals p j worker count =
    (not (is_attached j worker), flush.NotAttached) ∷ (nat_lt p.rows (length (rows j) + count), flush.RowsFull) ∷ []

-- ---- opening: the default bearer is non-GBR (TS 23.401, clause 4.7.2.1)
abbrev pub open_faults : Setting → Conditions OpenFault
open_faults p =
    (is_none (kind_of p.qcis p.default_qos.qci.0), opening.UnknownQci) ∷
    (is_gbr (kind_of p.qcis p.default_qos.qci.0), opening.DefaultIsGbr) ∷ []
