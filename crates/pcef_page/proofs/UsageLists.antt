-- The reports of usage in a list, and the keys, one after the other.
use Rattle.std.proofs.Common.{◌≡◌, ℕ, List, [], ◌∷◌, ◌++◌, refl, ap}
use Rattle.std.specs.Prelude.{map}
use Rattle.std.specs.List.{flat_map}
use Rattle.serde_json.specs.Data.{Data}
use Rattle.serde_json.specs.View.{items_of}
use Rattle.pcef_page.specs.Grants.{key_in, keys_in_all}
use Rattle.pcef_page.specs.Usages.{usage_of_report, usages_of_all}

pub told_flat : (number : ℕ) (reports : List Data) → usages_of_all number (items_of reports) ≡ flat_map (usage_of_report number) reports
told_flat number [] = refl
told_flat number (report ∷ reports) = ap (λ t. usage_of_report number report ++ t) (told_flat number reports)

pub keys_each : (keys : List Data) → keys_in_all (items_of keys) ≡ map key_in keys
keys_each [] = refl
keys_each (key ∷ keys) = ap (λ t. key_in key ∷ t) (keys_each keys)
