-- Event triggers in a line (TS 29.212, clause 5.3.7, Event-Trigger; that a line lists them is an own choice).
use Rattle.std.specs.Prelude.{ℕ, List, [], ◌∷◌, codes, Bool, false, Option, Some, None, Result, Ok, if◌then◌else◌}
use Rattle.std.specs.List.{find, list_any}
use Rattle.std.specs.Str.{bytes_eq}
use Rattle.serde_json.specs.Data.{Data, Items}
use Rattle.serde_json.specs.Find.{as_str}
use Rattle.pcef_model.specs.declared.trigger.AccessKind.{AccessKind}
use Rattle.pcef_model.specs.declared.trigger.AccessKind.TheVariants.{RatChange, PlmnChange, UserLocationChange, UeTimeZoneChange}
use Rattle.pcef_model.specs.declared.trigger.TriggerSet.{TriggerSet}
use Rattle.pcef_model.specs.Journals.{no_triggers}
use Rattle.pcef_line.specs.declared.fault.LineFault.{LineFault}
use Rattle.pcef_line.specs.declared.fault.LineFault.TheVariants.{BadField}
use Rattle.pcef_line.specs.declared.field.Field.TheVariants as field
use Rattle.pcef_line.specs.declared.trigger.Trigger.{Trigger}
use Rattle.pcef_line.specs.declared.trigger.Trigger.TheVariants.{NoEventTriggers, UsageReport, Access}
use Rattle.pcef_line.specs.LineShape.{each_item, some_item}
use Rattle.pcef_line.specs.LineValues.{text_at, list_at}
use Rattle.pcef_base.specs.Readings.{◌>>=◌, or_fault, passing}

-- ---- words
abbrev pub event_text : AccessKind → List ℕ
event_text RatChange = codes "RAT_CHANGE"
event_text PlmnChange = codes "PLMN_CHANGE"
event_text UserLocationChange = codes "USER_LOCATION_CHANGE"
event_text UeTimeZoneChange = codes "UE_TIME_ZONE_CHANGE"

abbrev pub trigger_text : Trigger → List ℕ
trigger_text NoEventTriggers = codes "NO_EVENT_TRIGGERS"
trigger_text UsageReport = codes "USAGE_REPORT"
trigger_text (Access kind) = event_text kind

abbrev pub events : List AccessKind
events = RatChange ∷ PlmnChange ∷ UserLocationChange ∷ UeTimeZoneChange ∷ []

abbrev pub triggers : List Trigger
triggers = NoEventTriggers ∷ UsageReport ∷ Access RatChange ∷ Access PlmnChange ∷ Access UserLocationChange ∷ Access UeTimeZoneChange ∷ []

-- the access event that a text is
abbrev pub event_of : List ℕ → Option AccessKind
event_of text = find (λ kind. bytes_eq (event_text kind) text) events

-- ---- lists
abbrev pub is_text : Option (List ℕ) → List ℕ → Bool
is_text None word = false
is_text (Some text) word = bytes_eq text word

abbrev pub is_word : Data → Trigger → Bool
is_word d trigger = is_text (as_str d) (trigger_text trigger)

abbrev pub is_trigger : Data → Bool
is_trigger d = list_any (is_word d) triggers

abbrev pub are_triggers : Items → Bool
are_triggers = each_item is_trigger

abbrev pub lists : Items → Trigger → Bool
lists items trigger = some_item (λ d. is_word d trigger) items

-- a trigger is subscribed where the list has its word; none is where it has the word for none, or is empty
abbrev pub set_of : Items → TriggerSet
set_of items =
    if lists items NoEventTriggers then no_triggers
    else record {
      usage_report = lists items UsageReport;
      rat_change = lists items (Access RatChange);
      plmn_change = lists items (Access PlmnChange);
      user_location_change = lists items (Access UserLocationChange);
      ue_time_zone_change = lists items (Access UeTimeZoneChange);
    }

-- ---- fields
unfoldable pub event_at : Data → Result AccessKind LineFault
event_at d = do
  text ← text_at field.Event field.Event d
  or_fault (BadField field.Event) (event_of text)

unfoldable pub triggers_at : Data → Result TriggerSet LineFault
triggers_at d = do
  items ← list_at field.Events d
  words ← passing are_triggers (BadField field.Events) items
  Ok (set_of words)
