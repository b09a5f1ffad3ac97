-- Keys that are on, keys that commands switch, and keys that lose their last rule.
use Rattle.pcef_model.specs.declared.level.Level.{Level}
use Rattle.pcef_model.specs.declared.level.Level.TheVariants.{Rule, Session}
use Rattle.pcef_rule.specs.declared.quantity.Slot.{Slot}
use Rattle.pcef_table.specs.SessionSlots.{no_slots}
use Rattle.pcef_table.specs.Tables.{with_counting}
use Rattle.pcef_usage.specs.Keys.{slot_place, state_at}
use Rattle.std.specs.Prelude.{map, set, [], ◌∷◌, if◌then◌else◌, nat_lt}
use Rattle.pcef_model.specs.declared.pending_report.PendingReport.{PendingReport}
use Rattle.pcef_model.specs.declared.pending_report.PendingReport.TheVariants.{Usage}
use Rattle.pcef_usage.specs.Commands.{usage_of}
use Rattle.pcef_model.specs.declared.report.Cause.{Cause}
use Rattle.pcef_model.specs.declared.report.Cause.TheVariants.{RulesGone, Terminated}
use Rattle.pcef_model.specs.declared.command.Command.TheVariants.{Terminate}
use Rattle.std.specs.Prelude.{◌||◌, true}
use Rattle.pcef_model.specs.declared.command.Command.TheVariants.{Monitor, Stop}
use Rattle.std.specs.Prelude.{Bool, ℕ, not, ◌&&◌, List, Option, Some, None, false}
use Rattle.std.specs.List.{list_any}
use Rattle.std.specs.Option.{option_map_or}
use Rattle.pcef_rule.specs.declared.rule.Properties.{Properties}
use Rattle.pcef_model.specs.ActiveRules.{is_key}
use Rattle.pcef_model.specs.Setting.{same_name}
use Rattle.pcef_table.specs.declared.entry.TableEntry.{TableEntry}
use Rattle.pcef_catalog.specs.declared.listing.Offer.{Offer}
use Rattle.pcef_table.specs.Sources.{properties_of, name_of}
use Rattle.pcef_usage.specs.declared.usage.KeyState.{KeyState}
use Rattle.pcef_session.specs.declared.prepared.Activation.{Activation}
use Rattle.pcef_model.specs.declared.command.Command.{Command}
use Rattle.pcef_model.specs.Commands.{takes_away}

-- the rule of some entry passes a test
abbrev pub some_entry : List Offer → (Properties → Bool) → List TableEntry → Bool
some_entry offers test entries = list_any (λ e. option_map_or test (properties_of offers e.source) false) entries

abbrev pub is_on_there : List ℕ → KeyState → Bool
is_on_there key s = same_name s.key key && s.on

-- the key has a slot, and is on there
abbrev pub is_on : Option (List ℕ) → List KeyState → Bool
is_on None states = false
is_on (Some key) states = list_any (is_on_there key) states

abbrev pub has_key : List ℕ → Properties → Bool
has_key key rule = is_key key rule.key

-- ---- keys that lose their last rule
-- the rule that becomes active has this name, and this key
abbrev pub comes_named : Option Activation → List ℕ → Bool
comes_named None name = false
comes_named (Some x) name = same_name name x.properties.name

abbrev pub comes_with : Option Activation → List ℕ → Bool
comes_with None key = false
comes_with (Some x) key = is_key key x.properties.key

-- the rule of an entry is neither replaced nor taken away
abbrev pub entry_stays : List Offer → Command → Option Activation → TableEntry → Bool
entry_stays offers c x e = not (comes_named x (name_of offers e.source) || takes_away c (name_of offers e.source) e.bearer.0)

abbrev pub stays_with : List Offer → Command → Option Activation → List ℕ → TableEntry → Bool
stays_with offers c x key e = entry_stays offers c x e && option_map_or (has_key key) (properties_of offers e.source) false

-- a key is on, and of whose rules there are some and none stays or comes
abbrev pub is_lost : List Offer → List TableEntry → Command → Option Activation → KeyState → Bool
is_lost offers entries c x s =
    s.on && some_entry offers (has_key s.key) entries
    && not (comes_with x s.key || list_any (stays_with offers c x s.key) entries)

-- ---- keys that a command ends
-- what is reported of a key that ends
abbrev pub end_cause : Command → Cause
end_cause Terminate = Terminated
end_cause _ = RulesGone

-- Terminate ends all that are on or have unreported octets, another command those that lose their last rule
abbrev pub is_ended : List Offer → List TableEntry → Command → Option Activation → KeyState → Bool
is_ended offers entries Terminate x s = s.on || nat_lt 0 s.unreported
is_ended offers entries c x s = is_lost offers entries c x s

-- the reports of the keys that a command ends, slot by slot
abbrev pub ended_usage : List Offer → List TableEntry → Command → Option Activation → List KeyState → List PendingReport
ended_usage offers entries c x states = usage_of (end_cause c) (is_ended offers entries c x) states

-- the report of a key, where it ends
abbrev pub usage_if : Bool → KeyState → Cause → List PendingReport
usage_if is_ended s cause = if is_ended then Usage s.key cause ∷ [] else []

-- ---- the key that a command switches
abbrev pub key_switched : Command → Option (List ℕ)
key_switched (Monitor key grant level) = Some key
key_switched (Stop key) = Some key
key_switched _ = None

abbrev pub switches_on : Command → Bool
switches_on (Monitor key grant level) = true
switches_on _ = false

-- its level: that of a Monitor, or the one that the key has
abbrev pub level_switched : Command → List ℕ → List KeyState → Level
level_switched (Monitor key grant level) k states = level
level_switched c k states = (state_at (slot_place k states) states).level

-- the entries, and the flags of slots, where this slot counts or doesn't for a key of this level
abbrev pub entries_switched : Level → Slot → Bool → List TableEntry → List TableEntry
entries_switched Rule slot on entries = map (with_counting slot on) entries
entries_switched Session slot on entries = entries

abbrev pub flags_switched : Level → Slot → Bool → List Bool → List Bool
flags_switched Rule slot on flags = flags
flags_switched Session slot on flags = set flags slot.0 on

-- the flags of slots after a command that switches no single key
abbrev pub flags_left : Command → List Bool → List Bool
flags_left Terminate flags = no_slots
flags_left _ flags = flags
