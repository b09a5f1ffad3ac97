-- What stands in a session that orders speak of.
use Rattle.std.specs.Prelude.{ℕ, List, Option, Some, None, filter, find}
use Rattle.pcef_rule.specs.Definition.{Definition}
use Rattle.pcef_rule.specs.declared.rule.Properties.{Properties}
use Rattle.pcef_model.specs.ActiveRules.{Active, Detection, by_filters, by_shape, is_named}
use Rattle.pcef_model.specs.Commands.{is_among}
use Rattle.pcef_model.specs.Entries.{Journal}
use Rattle.pcef_model.specs.Journals.{now, slots}
use Rattle.pcef_model.specs.Setting.{Setting}

-- a rule that was installed is known by its definition; a predefined one has none
abbrev pub definition_by : Properties → Detection → Option Definition
definition_by properties (by_filters filters) = Some (record { properties = properties; filters = filters })
definition_by properties (by_shape shape) = None

abbrev pub definition_if : Option Active → Option Definition
definition_if None = None
definition_if (Some r) = definition_by r.properties r.detection

-- the definition of the active rule of a name, which a message may change (TS 29.212, clause 5.3.4)
abbrev pub active_definition : Setting → Journal → List ℕ → Option Definition
active_definition p j name = definition_if (find (is_named name) (now p j).rules)

-- the monitoring keys that are on, in slot order
abbrev pub keys_on : Setting → Journal → List (List ℕ)
keys_on p j = filter (λ key. is_among key (now p j).on) (slots p j)
