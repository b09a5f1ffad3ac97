-- The AVPs that say what came of a message (TS 29.212, clauses 5.3.18 and 5.3.60).
use Rattle.std.specs.Prelude.{ℕ, ◌+◌, ◌==◌, ◌&&◌, not, Bool, true, false, List, [], ◌∷◌, length, Option, Some, None, if◌then◌else◌}
use Rattle.std.specs.Int.{w32, w64, to_be_bytes}
use Rattle.pcef_diameter.specs.Avps.{Shown}
use Rattle.pcef_diameter.specs.Spellings.{avps_octets}
use Rattle.pcef_gx.specs.Codes.{cc_total_octets, charging_rule_base_name, charging_rule_name, charging_rule_report, monitoring_key, pcc_rule_status, rule_failure_code, usage_monitoring_information, used_service_unit}
use Rattle.pcef_gx.specs.Failures.{failure_code}
use Rattle.pcef_gx.specs.Known.{is_one_of}
use Rattle.pcef_gx.specs.declared.code.Code.{Code}
use Rattle.pcef_gx.specs.declared.order.NameOf.{NameOf}
use Rattle.pcef_gx.specs.declared.order.NameOf.TheVariants.{Base, Rule}
use Rattle.pcef_gx.specs.declared.writing.RuleReport.{RuleReport}
use Rattle.pcef_gx.specs.declared.writing.RuleStatus.{RuleStatus}
use Rattle.pcef_gx.specs.declared.writing.RuleStatus.TheVariants.{Active, Inactive}

-- RAT-Type, Default-EPS-Bearer-QoS, Flow-Information, those of usage monitoring, and Flow-Direction have no M bit (clause
-- 5.3).
abbrev pub optional_avps : List ℕ
optional_avps = 1032 ∷ 1049 ∷ 1058 ∷ 1066 ∷ 1067 ∷ 1068 ∷ 1069 ∷ 1070 ∷ 1080 ∷ []

abbrev pub is_mandatory : Code → Bool
is_mandatory code = not ((code.vendor == 10415) && is_one_of optional_avps code.number)

unfoldable pub avp_of : Code → List ℕ → Shown
avp_of code octets = record {
  code = code.number;
  vendor = if code.vendor == 0 then None else Some code.vendor;
  mandatory = is_mandatory code;
  protected = false;
  octets = octets;
}

abbrev pub number_avp : Code → ℕ → Shown
number_avp code number = avp_of code (to_be_bytes w32 number)

abbrev pub group_avp : Code → List Shown → Shown
group_avp code parts = avp_of code (avps_octets parts)

-- PCC-Rule-Status (clause 5.3.19)
abbrev pub status_number : RuleStatus → ℕ
status_number Active = 0
status_number Inactive = 1

abbrev pub name_code : NameOf → Code
name_code Rule = charging_rule_name
name_code Base = charging_rule_base_name

-- Charging-Rule-Report
abbrev pub report_parts : RuleReport → List Shown
report_parts r =
    avp_of (name_code r.of) r.name.now ∷ number_avp pcc_rule_status (status_number r.status)
    ∷ number_avp rule_failure_code (failure_code r.failure) ∷ []

abbrev pub report_avp : RuleReport → Shown
report_avp r = group_avp charging_rule_report (report_parts r)

-- so many octets it takes at most: its header, a name with header and padding, and two numbers
abbrev pub report_room : RuleReport → ℕ
report_room r = length r.name.now + 68

-- Usage-Monitoring-Information, with the octets of both directions together
abbrev pub usage_avp : List ℕ → ℕ → Shown
usage_avp key octets =
    group_avp usage_monitoring_information
    (avp_of monitoring_key key ∷ group_avp used_service_unit (avp_of cc_total_octets (to_be_bytes w64 octets) ∷ []) ∷ [])
