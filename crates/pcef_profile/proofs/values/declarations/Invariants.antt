use Rattle.toml.specs.View.{items_view}
use Rattle.pcef_profile.specs.ProfileValues.{declarations_of}
use Rattle.pcef_base.proofs.ListReadings.{IsReadTo}
use Rattle.pcef_profile.proofs.Declarations.{declaration}
use Rattle.pcef_profile.proofs.values.declarations.Given as goal

abbrev pub invariant-loop-value : goal.invariant-loop-value
invariant-loop-value l = IsReadTo declaration l.values l.value-index l.declared.items (declarations_of (items_view l.values))
