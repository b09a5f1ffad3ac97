-- The filters of a list, read one after the other.
use Rattle.std.proofs.Common.{◌≡◌, ◌∷◌, List, [], Result, Ok, refl, ap}
use Rattle.serde_json.specs.declared.value.Value.{Value}
use Rattle.serde_json.specs.View.{view, items_view}
use Rattle.pcef_filter.specs.declared.filter.Filter.{Filter}
use Rattle.pcef_filter.specs.Reading.{reading_of}
use Rattle.pcef_line.specs.declared.fault.LineFault.{LineFault}
use Rattle.pcef_line.specs.LineRules.{filter_at, filters_of}
use Rattle.pcef_base.specs.Readings.{◌>>=◌}
use Rattle.pcef_base.proofs.ListReadings.{each}

abbrev pub filter : Value → Result Filter LineFault
filter v = filter_at reading_of (view v)

pub all_filters : (values : List Value) → each filter values ≡ filters_of reading_of (items_view values)
all_filters [] = refl
all_filters (v ∷ vs) = ap (λ rest. filter v >>= λ first. rest >>= λ others. Ok (first ∷ others)) (all_filters vs)
