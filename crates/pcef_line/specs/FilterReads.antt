-- How the text of a filter in a rule is read: as its grammar says (RFC 6733, clause 4.3.1).
use Rattle.std.specs.Prelude.{ℕ, List, Option, Result, Ok, Err}
use Rattle.pcef_filter.specs.declared.filter.Filter.{Filter}
use Rattle.pcef_filter.specs.declared.filter.FilterFault.{FilterFault}
use Rattle.pcef_filter.specs.declared.filter.Flow.{Flow}
use Rattle.pcef_filter.specs.Faults.{FilterFaultOf}
use Rattle.pcef_filter.specs.Grammar.{Spells}

-- what is read of a text and the flow word beside it
abbrev pub FilterReading : Type 0
FilterReading = List ℕ → Option Flow → Result Filter FilterFault

-- the filter that the text spells, or the text's fault
abbrev pub IsReadAs : List ℕ → Option Flow → Result Filter FilterFault → Type 0
IsReadAs text flow (Ok filter) = Spells text flow filter
IsReadAs text flow (Err fault) = FilterFaultOf text flow fault

-- every text is read so; there is one such reading, since no text has two filters, two faults, or both
abbrev pub IsExact : FilterReading → Type 0
IsExact reads = (text : List ℕ) (flow : Option Flow) → IsReadAs text flow (reads text flow)
