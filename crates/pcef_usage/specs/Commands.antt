-- What a command does to the counters of monitoring keys.
use Rattle.std.specs.Prelude.{◌≡◌, ℕ, Bool, true, not, ◌&&◌, List, ◌∷◌, filter, map}
use Rattle.pcef_model.specs.declared.command.Command.{Command}
use Rattle.pcef_model.specs.declared.command.Command.TheVariants.{Monitor, Stop, ReportNow, Triggers}
use Rattle.pcef_model.specs.declared.entry.Entry.TheVariants as entry
use Rattle.pcef_model.specs.declared.report.Cause.{Cause}
use Rattle.pcef_model.specs.declared.pending_report.PendingReport.{PendingReport}
use Rattle.pcef_model.specs.declared.pending_report.PendingReport.TheVariants.{Usage}
use Rattle.pcef_model.specs.declared.trigger.TriggerSet.{TriggerSet}
use Rattle.pcef_model.specs.Setting.{Setting}
use Rattle.pcef_model.specs.ActiveRules.{Active, has_key}
use Rattle.pcef_model.specs.Commands.{add_key, is_among, key_named, level_named}
use Rattle.pcef_model.specs.Entries.{Journal}
use Rattle.pcef_model.specs.Journals.{now, slots}
use Rattle.pcef_model.specs.Reports.{plan}
use Rattle.pcef_usage.specs.declared.usage.KeyState.{KeyState}
use Rattle.pcef_usage.specs.Keys.{at_place, slot_place, started, with_slot}
use Rattle.pcef_usage.specs.PendingReports.{ended}

-- the key of a Monitor is started
abbrev pub started_by : Command → List KeyState → List KeyState
started_by (Monitor key amount level) states = at_place (slot_place key states) (started amount) states
started_by _ states = states

-- the counters when a command is given: a key that it names has a slot, and the key of a Monitor is
-- started
abbrev pub entered : Setting → Command → List KeyState → List KeyState
entered p c states = started_by c (with_slot (key_named p c) (level_named c) states)

-- a key that is asked for is known: Stop names one that is on, and ReportNow one that has a slot
abbrev pub Asks : Setting → Journal → Command → Type 0
Asks p j (Stop key) = is_among key (now p j).on ≡ true
Asks p j (ReportNow key) = is_among key (slots p j) ≡ true
Asks p j _ = Unit {0}

-- the keys that a Monitor switches on
abbrev pub switched_on : Command → List (List ℕ) → List (List ℕ)
switched_on (Monitor key amount level) on = add_key key on
switched_on _ on = on

-- a key that has a slot is on after a command where it was on or is switched on, and no report of the
-- command takes its grant
abbrev pub OnAfter : Setting → Journal → Command → Type 0
OnAfter p j c = (key : List ℕ) → is_among key (slots p (entry.Command c ∷ j)) ≡ true →
    is_among key (now p (entry.Command c ∷ j)).on ≡ (is_among key (switched_on c (now p j).on) && not (ended (plan p j c) key))

-- what is subscribed after a command
abbrev pub subscribed_by : Command → TriggerSet → TriggerSet
subscribed_by (Triggers set) old = set
subscribed_by _ old = old

-- ---- what commands report by themselves, slot by slot
abbrev pub usage_of : Cause → (KeyState → Bool) → List KeyState → List PendingReport
usage_of cause test states = map (λ s. Usage s.key cause) (filter test states)

-- a key that is on, and of whose rules there were some and are none
abbrev pub loses_rules : List Active → List Active → KeyState → Bool
loses_rules old new s = s.on && has_key s.key old && not (has_key s.key new)
