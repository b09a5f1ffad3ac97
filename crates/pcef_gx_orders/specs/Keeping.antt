-- What is kept of a session that orders speak of.
use Rattle.std.specs.Prelude.{ℕ, List, Option, Some, None, filter, find, map}
use Rattle.pcef_active.specs.ByName.{NamedSource, is_kept_as}
use Rattle.pcef_rule.specs.Definition.{Definition}
use Rattle.pcef_table.specs.declared.entry.Source.{Source}
use Rattle.pcef_table.specs.declared.entry.Source.TheVariants.{Dynamic, Predefined}
use Rattle.pcef_usage.specs.declared.usage.KeyState.{KeyState}

abbrev pub definition_of : Source → Option Definition
definition_of (Dynamic rule) = Some rule
definition_of (Predefined place) = None

abbrev pub kept_if : Option NamedSource → Option Definition
kept_if None = None
kept_if (Some e) = definition_of e.1

-- the definition that is kept by this name
abbrev pub kept_definition : List ℕ → List NamedSource → Option Definition
kept_definition name kept = kept_if (find (is_kept_as name) kept)

-- the keys that are on
abbrev pub on_of : List KeyState → List (List ℕ)
on_of states = map (λ s. s.key) (filter (λ s. s.on) states)
