-- QCI, ARP and guaranteed rates (TS 29.212, clauses 5.3.16, 5.3.32 and 5.3.48).
use Rattle.std.specs.Prelude.{ℕ, ◌==◌, not, Bool, true, false, ◌||◌, List, Option, Some, None, option_map, unwrap_or, Result, Ok, Err, if◌then◌else◌}
use Rattle.pcef_base.specs.Readings.{◌>>=◌, or_fault}
use Rattle.pcef_diameter.specs.Avps.{Shown}
use Rattle.pcef_rule.specs.Priority.{Priority}
use Rattle.pcef_rule.specs.declared.quantity.Qos.{Qos}
use Rattle.pcef_rule.specs.declared.quantity.Rates.{Rates}
use Rattle.pcef_gx.specs.Codes.{allocation_retention_priority, extended_gbr_dl, extended_gbr_ul, guaranteed_bitrate_dl, guaranteed_bitrate_ul, pre_emption_capability, pre_emption_vulnerability, priority_level, qos_class_identifier, qos_information}
use Rattle.pcef_gx.specs.Readings.{Fault, group_of, number_from_to, only_number_of, only_of, only_word_of, required_of, stands, where_there}
use Rattle.pcef_gx.specs.declared.failure.RuleFailure.{RuleFailure}
use Rattle.pcef_gx.specs.declared.failure.RuleFailure.TheVariants.{UnsuccessfulQosValidation}
use Rattle.pcef_gx.specs.declared.quality.Quality.{Quality}

abbrev pub is_word : ℕ → Option ℕ → Bool
is_word wanted None = false
is_word wanted (Some word) = word == wanted

-- Pre-emption-Capability and -Vulnerability (clauses 5.3.46 and 5.3.47) are 0 where they are enabled. Without its AVP
-- the one is disabled, and the other enabled.
unfoldable pub arp_of : Shown → Result Priority Fault
arp_of a = do
  parts ← group_of a.octets
  found ← required_of priority_level parts
  level ← number_from_to 1 15 found
  capability ← only_word_of pre_emption_capability 1 parts
  vulnerability ← only_word_of pre_emption_vulnerability 1 parts
  Ok (record { level = level; capability = is_word 0 capability; vulnerability = not (is_word 1 vulnerability) })

abbrev pub qos_from : Option ℕ → Option Priority → Option Qos
qos_from (Some qci) (Some arp) = Some (record { qci = record { 0 = qci }; arp = arp })
qos_from _ _ = None

-- the QCI and the ARP of a QoS-Information or of a Default-EPS-Bearer-QoS, where both stand there
unfoldable pub qos_of : List Shown → Result (Option Qos) Fault
qos_of parts = do
  class ← only_of qos_class_identifier parts
  qci ← where_there (number_from_to 0 255) class
  priority ← only_of allocation_retention_priority parts
  arp ← where_there arp_of priority
  Ok (qos_from qci arp)

-- A rate that is missing is 0; without either there are none.
abbrev pub rates_from : Option ℕ → Option ℕ → Option Rates
rates_from None None = None
rates_from up down = Some (record { up = unwrap_or up 0; down = unwrap_or down 0 })

unfoldable pub rates_of : List Shown → Result (Option Rates) Fault
rates_of parts = do
  up ← only_number_of guaranteed_bitrate_ul parts
  down ← only_number_of guaranteed_bitrate_dl parts
  Ok (rates_from up down)

-- A rate in kbit/s has no place in a rule here.
abbrev pub quality_from : Bool → Option Qos → Option Rates → Result Quality RuleFailure
quality_from false (Some qos) rates = Ok (record { qos = qos; rates = rates })
quality_from _ _ _ = Err UnsuccessfulQosValidation

unfoldable pub quality_in : Shown → Result (Result Quality RuleFailure) Fault
quality_in a = do
  parts ← group_of a.octets
  qos ← qos_of parts
  rates ← rates_of parts
  Ok (quality_from (stands extended_gbr_ul parts || stands extended_gbr_dl parts) qos rates)
