-- The definition of a dynamic rule.
use Rattle.std.specs.Prelude.{ℕ, ◌<◌, ◌≤◌, List, length}
use Rattle.pcef_filter.specs.declared.filter.Filter.{Filter}
use Rattle.pcef_rule.specs.declared.rule.Properties.{Properties}

-- own choice
abbrev pub most_filters : ℕ
most_filters = 16

-- its properties, and the filters of which one must match (TS 23.203, clause 6.3.1)
pub record Definition : Type 0 where
  pub properties : Properties
  pub filters : List Filter

abbrev pub HasRightCount : List Filter → Type 0
HasRightCount filters = (0 < length filters) × (length filters ≤ most_filters)
