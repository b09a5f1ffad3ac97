-- Charging-Rule-Install and Charging-Rule-Remove (TS 29.212, clauses 5.3.2 and 5.3.3).
use Rattle.std.specs.Prelude.{ℕ, ◌||◌, List, [], ◌∷◌, ◌++◌, Option, Some, None, unwrap_or, Result, Ok, Err, if◌then◌else◌}
use Rattle.pcef_base.specs.Readings.{◌>>=◌}
use Rattle.pcef_diameter.specs.Avps.{Shown}
use Rattle.pcef_line.specs.FilterReads.{FilterReading}
use Rattle.pcef_gx.specs.Codes.{bearer_identifier, charging_rule_base_name, charging_rule_definition, charging_rule_install, charging_rule_name, charging_rule_remove, has_code, rule_activation_time, rule_deactivation_time}
use Rattle.pcef_gx.specs.Definitions.{change_of}
use Rattle.pcef_gx.specs.Names.{name_of}
use Rattle.pcef_gx.specs.Readings.{Fault, group_of, required_of, stands}
use Rattle.pcef_gx.specs.declared.definition.RuleChange.{RuleChange}
use Rattle.pcef_gx.specs.declared.failure.RuleFailure.{RuleFailure}
use Rattle.pcef_gx.specs.declared.failure.RuleFailure.TheVariants.{GatewayMalfunction, ResourcesLimitation, UnknownBearerId, UnknownRuleName}
use Rattle.pcef_gx.specs.declared.order.NameOf.{NameOf}
use Rattle.pcef_gx.specs.declared.order.NameOf.TheVariants.{Base, Rule}
use Rattle.pcef_gx.specs.declared.order.Order.{Order}
use Rattle.pcef_gx.specs.declared.order.Order.TheVariants as order

abbrev pub unable : Shown → NameOf → RuleFailure → Order
unable a of failure = order.Unable a.octets of failure

-- Why none of an install's rules can be had: bearers are chosen here, and nothing is done at a later time.
abbrev pub refusal_of_all : List Shown → Option RuleFailure
refusal_of_all parts =
    if stands bearer_identifier parts then Some UnknownBearerId
    else if stands rule_activation_time parts || stands rule_deactivation_time parts then Some GatewayMalfunction
    else None

abbrev pub activated : Option (List ℕ) → Shown → Option RuleFailure → Order
activated name a (Some failure) = unable a Rule failure
activated (Some name) a None = order.Activate name
activated None a None = unable a Rule UnknownRuleName

abbrev pub removed : Option (List ℕ) → Shown → Order
removed (Some name) a = order.Remove name
removed None a = unable a Rule UnknownRuleName

-- what a definition says goes before what an install says of all its rules
abbrev pub installed : Shown → Option RuleFailure → Result RuleChange RuleFailure → Order
installed a refused (Err failure) = unable a Rule failure
installed a (Some failure) (Ok change) = unable a Rule failure
installed a None (Ok change) = order.Install change

abbrev pub named_change : FilterReading → Option RuleFailure → Shown → List Shown → Option (List ℕ) → Result Order Fault
named_change reads refused a parts None = Ok (unable a Rule ResourcesLimitation)
named_change reads refused a parts (Some name) = do
  change ← change_of reads name parts
  Ok (installed a refused change)

-- a Charging-Rule-Definition
unfoldable pub definition_order : FilterReading → Option RuleFailure → Shown → Result Order Fault
definition_order reads refused a = do
  parts ← group_of a.octets
  called ← required_of charging_rule_name parts
  named_change reads refused called parts (name_of called.octets)

-- one part of an install: no group of rules is known here
unfoldable pub part_installed : FilterReading → Option RuleFailure → Shown → Result (Option Order) Fault
part_installed reads refused a =
    if has_code charging_rule_definition a then definition_order reads refused a >>= (λ asked. Ok (Some asked))
    else if has_code charging_rule_name a then Ok (Some (activated (name_of a.octets) a refused))
    else if has_code charging_rule_base_name a then Ok (Some (unable a Base (unwrap_or refused UnknownRuleName)))
    else Ok None

abbrev pub part_removed : Shown → Option Order
part_removed a =
    if has_code charging_rule_name a then Some (removed (name_of a.octets) a)
    else if has_code charging_rule_base_name a then Some (unable a Base UnknownRuleName)
    else None

abbrev pub and_order : List Order → Option Order → List Order
and_order orders None = orders
and_order orders (Some asked) = orders ++ asked ∷ []

-- the orders of an install, behind others
abbrev pub parts_installed : FilterReading → Option RuleFailure → List Order → List Shown → Result (List Order) Fault
parts_installed reads refused orders [] = Ok orders
parts_installed reads refused orders (a ∷ parts) =
    part_installed reads refused a >>= (λ asked. parts_installed reads refused (and_order orders asked) parts)

abbrev pub parts_removed : List Order → List Shown → List Order
parts_removed orders [] = orders
parts_removed orders (a ∷ parts) = parts_removed (and_order orders (part_removed a)) parts

unfoldable pub install_after : FilterReading → List Order → Shown → Result (List Order) Fault
install_after reads orders a = do
  parts ← group_of a.octets
  parts_installed reads (refusal_of_all parts) orders parts

unfoldable pub remove_after : List Order → Shown → Result (List Order) Fault
remove_after orders a = do
  parts ← group_of a.octets
  Ok (parts_removed orders parts)

-- all installs and all removals of a message
abbrev pub installs_after : FilterReading → List Order → List Shown → Result (List Order) Fault
installs_after reads orders [] = Ok orders
installs_after reads orders (a ∷ avps) =
    if has_code charging_rule_install a then install_after reads orders a >>= (λ more. installs_after reads more avps)
    else installs_after reads orders avps

abbrev pub removes_after : List Order → List Shown → Result (List Order) Fault
removes_after orders [] = Ok orders
removes_after orders (a ∷ avps) =
    if has_code charging_rule_remove a then remove_after orders a >>= (λ more. removes_after more avps)
    else removes_after orders avps
