-- Reports in answers: a JSON object (RFC 8259) for each, its members in the order of their keys (own
-- choice). The words of access events are those of lines.
use Rattle.std.specs.Prelude.{ℕ, List, [], codes, drop, map, nat_lt, reverse, if◌then◌else◌}
use Rattle.serde_json.specs.Data.{Data, string, array, object, member, no_members}
use Rattle.serde_json.specs.View.{items_of}
use Rattle.serde_json.specs.Written.{compact_text}
use Rattle.pcef_model.specs.declared.report.Body.{Body}
use Rattle.pcef_model.specs.declared.report.Body.TheVariants.{Usage, Access, Inactive}
use Rattle.pcef_model.specs.declared.report.Cause.{Cause}
use Rattle.pcef_model.specs.declared.report.Cause.TheVariants.{Threshold, Requested, Disabled, RulesGone, Terminated}
use Rattle.pcef_model.specs.declared.report.InactiveCause.{InactiveCause}
use Rattle.pcef_model.specs.declared.report.InactiveCause.TheVariants.{BearerLost}
use Rattle.pcef_model.specs.declared.report.Report.{Report}
use Rattle.pcef_model.specs.Entries.{Journal, reports}
use Rattle.pcef_line.specs.LineTriggers.{event_text}
use Rattle.pcef_answer.specs.FaultAnswers.{count}

abbrev pub cause_text : Cause → List ℕ
cause_text Threshold = codes "Threshold"
cause_text Requested = codes "Requested"
cause_text Disabled = codes "Disabled"
cause_text RulesGone = codes "RulesGone"
cause_text Terminated = codes "Terminated"

abbrev pub inactive_text : InactiveCause → List ℕ
inactive_text BearerLost = codes "BearerLost"

-- of this number
abbrev pub body_data : ℕ → Body → Data
body_data number (Usage key octets cause) =
    object (member (codes "cause") (string (cause_text cause))
    (member (codes "key") (string key)
    (member (codes "number") (count number)
    (member (codes "octets") (count octets) no_members))))
body_data number (Access kind value) =
    object (member (codes "event") (string (event_text kind))
    (member (codes "number") (count number)
    (member (codes "value") (string value) no_members)))
body_data number (Inactive rule cause) =
    object (member (codes "cause") (string (inactive_text cause))
    (member (codes "number") (count number)
    (member (codes "rule") (string rule) no_members)))

abbrev pub report_data : Report → Data
report_data report = body_data report.number report.body

-- a journal's reports from the number `first` on, the oldest first; none where `past_last` is not above it
abbrev pub reports_between : Journal → ℕ → ℕ → List Report
reports_between journal first past_last = if nat_lt first past_last then drop first (reverse (reports journal)) else []

abbrev pub reports_data : List Report → Data
reports_data report_list = array (items_of (map report_data report_list))

-- ---- for private clauses
-- the text of the reports from one number to another
abbrev pub reports_text : Journal → ℕ → ℕ → List ℕ
reports_text journal first past_last = compact_text (reports_data (reports_between journal first past_last))
