-- What a flush does to the counters of monitoring keys.
use Rattle.std.specs.Prelude.{List, [], ◌∷◌}
use Rattle.pcef_rule.specs.declared.quantity.Slot.{Slot}
use Rattle.pcef_model.specs.declared.row.Row.{Row}
use Rattle.pcef_usage.specs.declared.usage.KeyState.{KeyState}
use Rattle.pcef_usage.specs.Keys.{with_octets}

-- the counters after the rows of these items are counted, each for the keys of its slots
unfoldable pub rows_counted : {I : Type 0} → (I → Row) → (I → List Slot) → List I → List KeyState → List KeyState
rows_counted row own [] states = states
rows_counted row own (i ∷ items) states = rows_counted row own items (with_octets (own i) (row i).header.octets states)
