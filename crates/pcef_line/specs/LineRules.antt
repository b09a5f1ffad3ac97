-- The rule of a line: its fields in the order of checking (own choice).
use Rattle.std.specs.Prelude.{ℕ, nat_lt, List, [], ◌∷◌, length, codes, Option, Some, None, is_some, Result, Ok, Err, if◌then◌else◌}
use Rattle.std.specs.Str.{bytes_eq}
use Rattle.serde_json.specs.Data.{Data, Items, no_items, item}
use Rattle.serde_json.specs.Find.{get, as_object}
use Rattle.pcef_filter.specs.declared.filter.Filter.{Filter}
use Rattle.pcef_filter.specs.declared.filter.Flow.{Flow}
use Rattle.pcef_filter.specs.declared.filter.Flow.TheVariants.{Downlink, Uplink, Bidirectional}
use Rattle.pcef_rule.specs.declared.gate.Gate.{Gate}
use Rattle.pcef_rule.specs.declared.gate.Gate.TheVariants.{EnabledUplink, EnabledDownlink, Enabled, Disabled}
use Rattle.pcef_rule.specs.declared.quantity.Rates.{Rates}
use Rattle.pcef_rule.specs.declared.rule.Properties.{Properties}
use Rattle.pcef_rule.specs.declared.rule.RuleFault.TheVariants.{NoFilter, TooManyFilters}
use Rattle.pcef_rule.specs.Definition.{Definition, most_filters}
use Rattle.pcef_rule.specs.Priority.{Priority}
use Rattle.pcef_line.specs.FilterReads.{FilterReading}
use Rattle.pcef_line.specs.declared.fault.LineFault.{LineFault}
use Rattle.pcef_line.specs.declared.fault.LineFault.TheVariants.{BadField, BadFilter, BadRule}
use Rattle.pcef_line.specs.declared.field.Field.TheVariants as field
use Rattle.pcef_line.specs.LineWords.{field_text}
use Rattle.pcef_line.specs.LineValues.{text_at, number_at, flag_at, name_at, object_at, list_at}
use Rattle.pcef_base.specs.Readings.{◌>>=◌, or_fault, passing, under}

-- a field that may be absent; `null` isn't absent
abbrev pub optional : {A : Type 0} → (Data → Result A LineFault) → Data → Option Data → Result (Option A) LineFault
optional reading d None = Ok None
optional reading d (Some value) = reading d >>= λ x. Ok (Some x)

unfoldable pub arp_at : Data → Result Priority LineFault
arp_at rule = do
  arp ← object_at field.Arp rule
  level ← number_at field.Level field.Arp 1 15 arp
  capability ← flag_at field.Capability field.Arp arp
  vulnerability ← flag_at field.Vulnerability field.Arp arp
  Ok (record { level = level; capability = capability; vulnerability = vulnerability })

unfoldable pub both_rates_at : Data → Result Rates LineFault
both_rates_at rule = do
  gbr ← object_at field.Gbr rule
  up ← number_at field.Up field.Gbr 0 4294967295 gbr
  down ← number_at field.Down field.Gbr 0 4294967295 gbr
  Ok (record { up = up; down = down })

unfoldable pub rates_at : Data → Result (Option Rates) LineFault
rates_at rule = optional both_rates_at rule (get (field_text field.Gbr) rule)

-- TS 29.214, clause 5.3.11, Flow-Status
abbrev pub gate_of : List ℕ → Option Gate
gate_of text =
    if bytes_eq text (codes "ENABLED-UPLINK") then Some EnabledUplink
    else if bytes_eq text (codes "ENABLED-DOWNLINK") then Some EnabledDownlink
    else if bytes_eq text (codes "ENABLED") then Some Enabled
    else if bytes_eq text (codes "DISABLED") then Some Disabled
    else None

unfoldable pub gate_at : Data → Result Gate LineFault
gate_at rule = do
  text ← text_at field.Gate field.Gate rule
  or_fault (BadField field.Gate) (gate_of text)

unfoldable pub key_at : Data → Result (Option (List ℕ)) LineFault
key_at rule = optional (name_at field.Key) rule (get (field_text field.Key) rule)

-- TS 29.212, clause 5.3.65, Flow-Direction
abbrev pub flow_of : List ℕ → Option Flow
flow_of text =
    if bytes_eq text (codes "downlink") then Some Downlink
    else if bytes_eq text (codes "uplink") then Some Uplink
    else if bytes_eq text (codes "bidirectional") then Some Bidirectional
    else None

unfoldable pub flow_word_at : Data → Result Flow LineFault
flow_word_at filter = do
  text ← text_at field.Flow field.Filters filter
  or_fault (BadField field.Filters) (flow_of text)

unfoldable pub flow_at : Data → Result (Option Flow) LineFault
flow_at filter = optional flow_word_at filter (get (field_text field.Flow) filter)

-- a filter, its text read by `reads`
unfoldable pub filter_at : FilterReading → Data → Result Filter LineFault
filter_at reads value = do
  filter ← passing (λ v. is_some (as_object v)) (BadField field.Filters) value
  text ← text_at field.Text field.Filters filter
  flow ← flow_at filter
  under (BadFilter field.Filters) (reads text flow)

abbrev pub filters_of : FilterReading → Items → Result (List Filter) LineFault
filters_of reads no_items = Ok []
filters_of reads (item value values) = filter_at reads value >>= λ first. filters_of reads values >>= λ others. Ok (first ∷ others)

unfoldable pub filters_at : FilterReading → Data → Result (List Filter) LineFault
filters_at reads rule = list_at field.Filters rule >>= filters_of reads

-- a rule has 1 to 16 filters
abbrev pub rule_of : Properties → List Filter → Result Definition LineFault
rule_of properties [] = Err (BadRule field.Rule NoFilter)
rule_of properties (first ∷ others) =
    if nat_lt most_filters (length (first ∷ others)) then Err (BadRule field.Rule TooManyFilters)
    else Ok (record { properties = properties; filters = first ∷ others })

unfoldable pub rule_at : FilterReading → Data → Result Definition LineFault
rule_at reads d = do
  name ← name_at field.Name d
  precedence ← number_at field.Precedence field.Precedence 0 4294967295 d
  filters ← filters_at reads d
  qci ← number_at field.Qci field.Qci 0 255 d
  arp ← arp_at d
  rates ← rates_at d
  gate ← gate_at d
  key ← key_at d
  rule_of (record { name = name; precedence = precedence; qos = record { qci = record { 0 = qci }; arp = arp }; rates = rates; gate = gate; key = key }) filters
