-- The rule that a definition makes (TS 29.212, clause 5.3.4): of an active rule it changes what it names, and the rest
-- stays.
use Rattle.std.specs.Prelude.{ℕ, ◌&&◌, nat_lt, Bool, true, false, List, [], ◌∷◌, length, Option, Some, None, option_map, unwrap_or, Result, Ok, Err, if◌then◌else◌}
use Rattle.std.specs.List.{list_all}
use Rattle.pcef_base.specs.Readings.{◌>>=◌, or_fault}
use Rattle.pcef_filter.specs.declared.filter.Filter.{Filter}
use Rattle.pcef_filter.specs.declared.filter.Place.{Place}
use Rattle.pcef_filter.specs.declared.filter.Place.TheVariants as place
use Rattle.pcef_packet.specs.declared.header.Addr.{Addr}
use Rattle.pcef_packet.specs.declared.header.Addr.TheVariants.{V4, V6}
use Rattle.pcef_rule.specs.Definition.{Definition, most_filters}
use Rattle.pcef_rule.specs.declared.gate.Gate.TheVariants.{Enabled}
use Rattle.pcef_rule.specs.declared.rule.Properties.{Properties}
use Rattle.pcef_gx.specs.Definitions.{unless}
use Rattle.pcef_gx.specs.declared.definition.RuleChange.{RuleChange}
use Rattle.pcef_gx.specs.declared.failure.RuleFailure.{RuleFailure}
use Rattle.pcef_gx.specs.declared.failure.RuleFailure.TheVariants.{IncorrectFlowInformation, MissingFlowInformation, ResourcesLimitation, UnsuccessfulQosValidation}
use Rattle.pcef_gx.specs.declared.quality.Quality.{Quality}

abbrev pub or_as_it_was : {X : Type 0} → Option X → Option X → Option X
or_as_it_was (Some x) old = Some x
or_as_it_was None old = old

-- a filter names no address of the other IP version than the session's: it would never match
abbrev pub is_same_version : Addr → Addr → Bool
is_same_version (V4 a) (V4 b) = true
is_same_version (V6 a) (V6 b) = true
is_same_version _ _ = false

abbrev pub fits_version : Addr → Place → Bool
fits_version ue (place.Net net) = is_same_version ue net.addr
fits_version ue _ = true

abbrev pub fits_session : Addr → Filter → Bool
fits_session ue filter = fits_version ue filter.source.place && fits_version ue filter.target.place

abbrev pub filters_or : List Filter → Option Definition → List Filter
filters_or [] (Some rule) = rule.filters
filters_or filters _ = filters

-- a rule has 1 to 16 filters, of the session's version
abbrev pub filters_failure : Addr → List Filter → Option RuleFailure
filters_failure ue [] = Some MissingFlowInformation
filters_failure ue (filter ∷ filters) =
    if nat_lt most_filters (length (filter ∷ filters)) then Some ResourcesLimitation
    else if list_all (fits_session ue) (filter ∷ filters) then None
    else Some IncorrectFlowInformation

-- what a rule has
abbrev pub quality_had : Definition → Quality
quality_had rule = record { qos = rule.properties.qos; rates = rule.properties.rates }

abbrev pub key_had : Option Definition → Option (List ℕ)
key_had None = None
key_had (Some rule) = rule.properties.key

-- A new rule without a Precedence goes last, without a Flow-Status its gate is open, and it needs QCI and ARP.
abbrev pub properties_of : RuleChange → Option Definition → Quality → Properties
properties_of change active quality = record {
  name = change.name;
  precedence = unwrap_or (or_as_it_was change.precedence (option_map (λ rule. rule.properties.precedence) active)) 4294967295;
  qos = quality.qos;
  rates = quality.rates;
  gate = unwrap_or (or_as_it_was change.gate (option_map (λ rule. rule.properties.gate) active)) Enabled;
  key = or_as_it_was change.key (key_had active);
}

abbrev pub rule_with : RuleChange → Option Definition → List Filter → Quality → Definition
rule_with change active filters quality = record { properties = properties_of change active quality; filters = filters }

-- the rule, or the first reason why it can't be had
unfoldable pub completed : Addr → RuleChange → Option Definition → Result Definition RuleFailure
completed ue change active =
    unless (filters_failure ue (filters_or change.filters active))
    (or_fault UnsuccessfulQosValidation (or_as_it_was change.quality (option_map quality_had active)) >>= λ quality.
    Ok (rule_with change active (filters_or change.filters active) quality))
