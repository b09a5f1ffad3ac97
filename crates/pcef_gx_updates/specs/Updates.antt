-- What a CCR tells of the reports of a session (TS 29.212, clauses 4.5.3, 4.5.12 and 4.5.16).
use Rattle.std.specs.Prelude.{ℕ, ◌++◌, ◌&&◌, not, Bool, true, false, List, [], ◌∷◌, drop, map, reverse, take, if◌then◌else◌}
use Rattle.std.specs.List.{list_any}
use Rattle.pcef_diameter.specs.Avps.{Shown}
use Rattle.pcef_gx.specs.Codes.{charging_rule_name, charging_rule_report, event_trigger, pcc_rule_status, rule_failure_code}
use Rattle.pcef_gx.specs.Names.{octets_of}
use Rattle.pcef_gx.specs.Writing.{avp_of, group_avp, number_avp, usage_avp}
use Rattle.pcef_gx.specs.declared.code.Code.{Code}
use Rattle.pcef_model.specs.Entries.{Journal, reports}
use Rattle.pcef_model.specs.declared.report.Body.{Body}
use Rattle.pcef_model.specs.declared.report.Body.TheVariants as body
use Rattle.pcef_model.specs.declared.report.Cause.{Cause}
use Rattle.pcef_model.specs.declared.report.Cause.TheVariants.{Terminated}
use Rattle.pcef_model.specs.declared.report.Report.{Report}
use Rattle.pcef_model.specs.declared.trigger.AccessKind.{AccessKind}
use Rattle.pcef_model.specs.declared.trigger.AccessKind.TheVariants.{PlmnChange, RatChange, UeTimeZoneChange, UserLocationChange}

-- ---- one report
-- The AVP of an access event has the notice's value, escaped as names are: RAT-Type (clause 5.3.31), and three of TS
-- 29.061, clause 16.4.7: 3GPP-SGSN-MCC-MNC, 3GPP-User-Location-Info and 3GPP-MS-TimeZone.
abbrev pub access_number : AccessKind → ℕ
access_number RatChange = 1032
access_number PlmnChange = 18
access_number UserLocationChange = 22
access_number UeTimeZoneChange = 23

abbrev pub access_code : AccessKind → Code
access_code kind = record { vendor = 10415; number = access_number kind }

-- a rule that went with its bearer: INACTIVE, RESOURCE_ALLOCATION_FAILURE (TS 29.212, clauses 5.3.19 and
-- 5.3.38)
abbrev pub gone_parts : List ℕ → List Shown
gone_parts name = avp_of charging_rule_name name ∷ number_avp pcc_rule_status 1 ∷ number_avp rule_failure_code 10 ∷ []

abbrev pub gone_avp : List ℕ → Shown
gone_avp name = group_avp charging_rule_report (gone_parts name)

-- each report is told by one AVP, usage with all its octets
abbrev pub told_avp : Body → Shown
told_avp (body.Usage key octets cause) = usage_avp (octets_of key) octets
told_avp (body.Access kind value) = avp_of (access_code kind) (octets_of value)
told_avp (body.Inactive rule cause) = gone_avp (octets_of rule)

abbrev pub report_told : Report → Shown
report_told r = told_avp r.body

-- ---- event triggers (TS 29.212, clause 5.3.7)
abbrev pub is_end : Cause → Bool
is_end Terminated = true
is_end _ = false

-- USAGE_REPORT, 33: at the end of a session usage is told without it (own choice)
abbrev pub is_usage : Body → Bool
is_usage (body.Usage key octets cause) = not (is_end cause)
is_usage _ = false

abbrev pub same_kind : AccessKind → AccessKind → Bool
same_kind RatChange RatChange = true
same_kind PlmnChange PlmnChange = true
same_kind UserLocationChange UserLocationChange = true
same_kind UeTimeZoneChange UeTimeZoneChange = true
same_kind _ _ = false

abbrev pub is_access : AccessKind → Body → Bool
is_access kind (body.Access other value) = same_kind kind other
is_access kind _ = false

-- LOSS_OF_BEARER, 5, where the PCRF asked for it
abbrev pub is_gone : Body → Bool
is_gone (body.Inactive rule cause) = true
is_gone _ = false

abbrev pub trigger_if : Bool → ℕ → List Shown
trigger_if is number = if is then number_avp event_trigger number ∷ [] else []

-- each event trigger once, whatever the number of its reports
abbrev pub any_of : (Body → Bool) → List Report → Bool
any_of test rs = list_any (λ r. test r.body) rs

abbrev pub access_triggers : List Report → List Shown
access_triggers rs =
    trigger_if (any_of (is_access RatChange) rs) 2 ++ (trigger_if (any_of (is_access PlmnChange) rs) 4
    ++ (trigger_if (any_of (is_access UserLocationChange) rs) 13 ++ trigger_if (any_of (is_access UeTimeZoneChange) rs) 25))

abbrev pub other_triggers : Bool → List Report → List Shown
other_triggers asks rs = trigger_if (any_of is_usage rs) 33 ++ trigger_if (asks && any_of is_gone rs) 5

-- ---- the AVPs of a CCR
-- how many reports a CCR tells at most (own choice)
abbrev pub most_reports : ℕ
most_reports = 100

-- the reports that the next CCR tells, where so many were told: the oldest of the others
abbrev pub untold : Journal → ℕ → List Report
untold j told = take most_reports (drop told (reverse (reports j)))

abbrev pub update_avps : Bool → List Report → List Shown
update_avps asks rs = other_triggers asks rs ++ (access_triggers rs ++ map report_told rs)
