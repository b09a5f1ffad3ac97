-- Charging-Rule-Definition (TS 29.212, clause 5.3.4).
use Rattle.std.specs.Prelude.{ℕ, ◌==◌, ◌||◌, List, [], Option, Some, None, option_map, Result, Ok, Err, if◌then◌else◌}
use Rattle.pcef_base.specs.Readings.{◌>>=◌, or_fault}
use Rattle.pcef_diameter.specs.Avps.{Shown}
use Rattle.pcef_line.specs.FilterReads.{FilterReading}
use Rattle.pcef_rule.specs.declared.gate.Gate.{Gate}
use Rattle.pcef_rule.specs.declared.gate.Gate.TheVariants.{Disabled, Enabled, EnabledDownlink, EnabledUplink}
use Rattle.pcef_gx.specs.Codes.{flow_status, monitoring_key, online, precedence, qos_information, redirect_information, tdf_application_identifier}
use Rattle.pcef_gx.specs.Flows.{flows_after}
use Rattle.pcef_gx.specs.Names.{name_of}
use Rattle.pcef_gx.specs.Qualities.{is_word, quality_in}
use Rattle.pcef_gx.specs.declared.quality.Quality.{Quality}
use Rattle.pcef_gx.specs.Readings.{Fault, only_number_of, only_of, only_word_of, stands, where_there}
use Rattle.pcef_gx.specs.declared.definition.RuleChange.{RuleChange}
use Rattle.pcef_gx.specs.declared.definition.Said.{Said}
use Rattle.pcef_gx.specs.declared.failure.RuleFailure.{RuleFailure}
use Rattle.pcef_gx.specs.declared.failure.RuleFailure.TheVariants.{GatewayMalfunction, IncorrectFlowInformation, ResourcesLimitation, TdfApplicationIdentifierError}

-- Flow-Status (TS 29.214, clause 5.3.11): ENABLED-UPLINK 0, ENABLED-DOWNLINK 1, ENABLED 2, DISABLED 3. REMOVED, 4, is no
-- gate.
abbrev pub gate_of : ℕ → Result Gate RuleFailure
gate_of word =
    if word == 0 then Ok EnabledUplink
    else if word == 1 then Ok EnabledDownlink
    else if word == 2 then Ok Enabled
    else if word == 3 then Ok Disabled
    else Err IncorrectFlowInformation

abbrev pub key_of : Shown → Result (List ℕ) RuleFailure
key_of a = or_fault ResourcesLimitation (name_of a.octets)

-- What no rule has here: detection by an application's name, redirection, charging online.
abbrev pub missing_here : Option ℕ → List Shown → Option RuleFailure
missing_here charging parts =
    if stands tdf_application_identifier parts then Some TdfApplicationIdentifierError
    else if stands redirect_information parts || is_word 1 charging then Some GatewayMalfunction
    else None

abbrev pub unless : {Y : Type 0} → Option RuleFailure → Result Y RuleFailure → Result Y RuleFailure
unless (Some failure) due = Err failure
unless None due = due

-- the rule of what a definition says, or the first reason why it can't be had
abbrev pub change_from : List ℕ → Said → Result RuleChange RuleFailure
change_from name said =
    unless said.missing (said.key >>= λ key. said.gate >>= λ gate. said.quality >>= λ quality. said.filters >>= λ filters.
    Ok (record { name = name; precedence = said.precedence; filters = filters; quality = quality; gate = gate; key = key }))

abbrev pub or_failure : {Y : Type 0} → Option (Result Y RuleFailure) → Result (Option Y) RuleFailure
or_failure None = Ok None
or_failure (Some due) = due >>= λ y. Ok (Some y)

unfoldable pub quality_where : Option Shown → Result (Result (Option Quality) RuleFailure) Fault
quality_where information = do
  quality ← where_there quality_in information
  Ok (or_failure quality)

-- Faults of AVPs go before.
unfoldable pub change_of : FilterReading → List ℕ → List Shown → Result (Result RuleChange RuleFailure) Fault
change_of reads name parts = do
  precedence ← only_number_of precedence parts
  status ← only_word_of flow_status 4 parts
  charging ← only_word_of online 1 parts
  key ← only_of monitoring_key parts
  information ← only_of qos_information parts
  quality ← quality_where information
  filters ← flows_after reads (Ok []) parts
  Ok (change_from name (record {
    precedence = precedence;
    missing = missing_here charging parts;
    key = or_failure (option_map key_of key);
    gate = or_failure (option_map gate_of status);
    quality = quality;
    filters = filters;
  }))
