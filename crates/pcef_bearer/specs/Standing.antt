-- The binding of the bearers that a generation of the journal stands for.
use Rattle.std.specs.Prelude.{List, map}
use Rattle.pcef_model.specs.Setting.{Setting}
use Rattle.pcef_model.specs.ActiveRules.{Active}
use Rattle.pcef_model.specs.Generations.{Generation}
use Rattle.pcef_bearer.specs.declared.bearers.Bound.{Bound}
use Rattle.pcef_bearer.specs.Bindings.{Binding, bound_at}

-- the rules of a generation as they are bound: each to the id of its pair of QCI and ARP
abbrev pub bound_of : Generation → List Active → List Bound
bound_of g rules = map (λ r. bound_at r.properties.name r.properties.qos r.properties.rates (g.id_of r.properties.qos)) rules

abbrev pub binding_of : Setting → Generation → Binding
binding_of p g = record { default_qos = p.default_qos; capacity = p.capacity; qcis = p.qcis; bound = bound_of g g.rules }
