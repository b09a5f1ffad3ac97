-- The declarations of an array, read one after the other.
use Rattle.std.proofs.Common.{◌≡◌, ◌∷◌, ℕ, List, [], Result, Ok, refl, ap}
use Rattle.toml.specs.declared.value.Value.{Value}
use Rattle.toml.specs.View.{view, items_view}
use Rattle.pcef_rule.specs.declared.qci.Kind.{Kind}
use Rattle.pcef_profile.specs.declared.fault.ReadProfileFault.{ReadProfileFault}
use Rattle.pcef_profile.specs.ProfileValues.{declaration_of, declarations_of}
use Rattle.pcef_base.specs.Readings.{◌>>=◌}
use Rattle.pcef_base.proofs.ListReadings.{each}

abbrev pub declaration : Value → Result (ℕ × Kind) ReadProfileFault
declaration v = declaration_of (view v)

pub all_declarations : (values : List Value) → each declaration values ≡ declarations_of (items_view values)
all_declarations [] = refl
all_declarations (v ∷ vs) = ap (λ rest. declaration v >>= λ first. rest >>= λ others. Ok (first ∷ others)) (all_declarations vs)
