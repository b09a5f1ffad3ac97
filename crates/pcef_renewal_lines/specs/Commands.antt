-- The commands of a renewal as lines (own choice; JSON: RFC 8259).
use Rattle.std.specs.Prelude.{ℕ, ◌≡◌, ◌++◌, List, [], ◌∷◌, Bool, true, false, Ok, codes, decimal, if◌then◌else◌}
use Rattle.std.specs.List.{join_by}
use Rattle.json.specs.Print.{quoted}
use Rattle.pcef_line.specs.LineOf.{LineOf, of_command}
use Rattle.pcef_line.specs.LineTriggers.{event_text}
use Rattle.pcef_model.specs.declared.command.Command.{Command}
use Rattle.pcef_model.specs.declared.command.Command.TheVariants.{Activate, Close, Install, Monitor, Triggers}
use Rattle.pcef_model.specs.declared.level.Level.{Level}
use Rattle.pcef_model.specs.declared.level.Level.TheVariants as level
use Rattle.pcef_model.specs.declared.trigger.AccessKind.TheVariants.{PlmnChange, RatChange, UeTimeZoneChange, UserLocationChange}
use Rattle.pcef_model.specs.declared.trigger.TriggerSet.{TriggerSet}
use Rattle.pcef_renewal_lines.specs.Rules.{rule_text}

-- TS 29.212, clause 5.3.61, Usage-Monitoring-Level
abbrev pub level_word : Level → List ℕ
level_word level.Rule = codes "rule"
level_word level.Session = codes "session"

-- TS 29.212, clause 5.3.7, Event-Trigger
abbrev pub word_if : Bool → List ℕ → List (List ℕ)
word_if is_subscribed word = if is_subscribed then (codes "\"" ++ (word ++ codes "\"")) ∷ [] else []

abbrev pub event_words : TriggerSet → List (List ℕ)
event_words set =
    (((word_if set.usage_report (codes "USAGE_REPORT") ++ word_if set.rat_change (event_text RatChange)) ++ word_if set.plmn_change (event_text PlmnChange))
    ++ word_if set.user_location_change (event_text UserLocationChange)) ++ word_if set.ue_time_zone_change (event_text UeTimeZoneChange)

-- texts with commas between them
abbrev pub with_commas : List (List ℕ) → List ℕ
with_commas texts = join_by (λ text. text) (codes ",") texts

-- a renewal has these commands and no other
abbrev pub has_line : Command → Bool
has_line (Install rule) = true
has_line (Activate name) = true
has_line (Monitor key grant level) = true
has_line (Triggers set) = true
has_line Close = true
has_line other = false

unfoldable pub line_text : Command → List ℕ
line_text (Install rule) = codes "{\"do\":\"install\",\"rule\":" ++ (rule_text rule ++ codes "}")
line_text (Activate name) = codes "{\"do\":\"activate\",\"name\":" ++ (quoted name ++ codes "}")
line_text (Monitor key grant level) =
    codes "{\"do\":\"monitor\",\"key\":" ++ (quoted key ++ (codes ",\"grant\":" ++ (decimal grant ++ (codes ",\"level\":\"" ++ (level_word level ++ codes "\"}")))))
line_text (Triggers set) = codes "{\"do\":\"triggers\",\"events\":[" ++ (with_commas (event_words set) ++ codes "]}")
line_text Close = codes "{\"do\":\"close\"}"
line_text other = []

-- the text is a line that says this command
unfoldable pub SaysCommand : List ℕ → Command → Type 0
SaysCommand text c = (has_line c ≡ true) × LineOf text (Ok (of_command c))

-- its own line does
abbrev pub ReadsBack : Command → Type 0
ReadsBack c = SaysCommand (line_text c) c
