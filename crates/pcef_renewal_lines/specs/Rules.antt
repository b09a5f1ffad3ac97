-- Rules as lines write them: a JSON object (RFC 8259), whose fields come in the order in which a line's are checked.
use Rattle.std.specs.Prelude.{ℕ, ◌++◌, List, [], Option, Some, None, Bool, codes, decimal, if◌then◌else◌}
use Rattle.json.specs.Print.{quoted}
use Rattle.pcef_filter.specs.declared.filter.Filter.{Filter}
use Rattle.pcef_rule.specs.declared.gate.Gate.{Gate}
use Rattle.pcef_rule.specs.declared.gate.Gate.TheVariants.{EnabledUplink, EnabledDownlink, Enabled, Disabled}
use Rattle.pcef_rule.specs.declared.quantity.Rates.{Rates}
use Rattle.pcef_rule.specs.declared.rule.Properties.{Properties}
use Rattle.pcef_rule.specs.Definition.{Definition}
use Rattle.pcef_rule.specs.Priority.{Priority}
use Rattle.pcef_renewal_lines.specs.Filters.{filters_text}

abbrev pub flag_text : Bool → List ℕ
flag_text flag = if flag then codes "true" else codes "false"

abbrev pub arp_text : Priority → List ℕ
arp_text arp =
    codes "{\"level\":" ++ (decimal arp.level ++ (codes ",\"capability\":" ++ (flag_text arp.capability
    ++ (codes ",\"vulnerability\":" ++ (flag_text arp.vulnerability ++ codes "}")))))

-- guaranteed rates, where there are any
abbrev pub rates_part : Option Rates → List ℕ
rates_part None = []
rates_part (Some rates) = codes ",\"gbr\":{\"up\":" ++ (decimal rates.up ++ (codes ",\"down\":" ++ (decimal rates.down ++ codes "}")))

-- TS 29.214, clause 5.3.11, Flow-Status
abbrev pub gate_word : Gate → List ℕ
gate_word EnabledUplink = codes "ENABLED-UPLINK"
gate_word EnabledDownlink = codes "ENABLED-DOWNLINK"
gate_word Enabled = codes "ENABLED"
gate_word Disabled = codes "DISABLED"

-- a monitoring key, where there is one
abbrev pub key_part : Option (List ℕ) → List ℕ
key_part None = []
key_part (Some key) = codes ",\"key\":" ++ quoted key

-- its fields up to the filters, those of its QoS, and the others
abbrev pub name_part : Properties → List Filter → List ℕ
name_part p filters =
    codes "{\"name\":" ++ (quoted p.name ++ (codes ",\"precedence\":" ++ (decimal p.precedence ++ (codes ",\"filters\":[" ++ (filters_text filters ++ codes "]")))))

abbrev pub qos_part : Properties → List ℕ
qos_part p = codes ",\"qci\":" ++ (decimal p.qos.qci.0 ++ (codes ",\"arp\":" ++ (arp_text p.qos.arp ++ rates_part p.rates)))

abbrev pub gate_part : Properties → List ℕ
gate_part p = codes ",\"gate\":\"" ++ (gate_word p.gate ++ (codes "\"" ++ (key_part p.key ++ codes "}")))

unfoldable pub rule_text : Definition → List ℕ
rule_text rule = name_part rule.properties rule.filters ++ (qos_part rule.properties ++ gate_part rule.properties)
