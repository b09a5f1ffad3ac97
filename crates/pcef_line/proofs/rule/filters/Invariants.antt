use Rattle.serde_json.specs.View.{items_view}
use Rattle.pcef_filter.specs.Reading.{reading_of}
use Rattle.pcef_line.specs.LineRules.{filters_of}
use Rattle.pcef_line.proofs.FilterLists.{filter}
use Rattle.pcef_base.proofs.ListReadings.{IsReadTo}
use Rattle.pcef_line.proofs.rule.filters.Given as goal

abbrev pub invariant-loop-value : goal.invariant-loop-value
invariant-loop-value l = IsReadTo filter l.values l.value-index l.filters.items (filters_of reading_of (items_view l.values))
