-- Tests of all keys of a table and of all entries of an array, as iterators make them.
use Rattle.std.proofs.Common.{◌≡◌, Bool, ◌&&◌, List, [], ◌∷◌, map, refl, ap}
use Rattle.std.specs.Prelude.{String, string_bytes}
use Rattle.std.specs.declared.alloc.Global.{Global}
use Rattle.std.specs.List.{list_all}
use Rattle.toml.specs.declared.value.Value.{Value}
use Rattle.toml.specs.Data.{Members, as_table}
use Rattle.toml.specs.View.{view, items_view, members_view}
use Rattle.pcef_profile.specs.declared.key.Key.{Key}
use Rattle.pcef_profile.specs.ProfileKeys.{key_text, keys_known, each_table}
use Rattle.pcef_base.specs.Readings.{if_there, names_one_of}

pub all_keys : (keys : List Key) (members : List (String Global × Value)) → list_all (λ text. names_one_of key_text keys (string_bytes text)) (map (λ m. m.0) members) ≡ keys_known keys (members_view members)
all_keys keys [] = refl
all_keys keys (m ∷ ms) = ap (λ rest. names_one_of key_text keys (string_bytes m.0) && rest) (all_keys keys ms)

pub all_tables : (test : Members → Bool) (values : List Value) → list_all (λ value. if_there test (as_table (view value))) values ≡ each_table test (items_view values)
all_tables test [] = refl
all_tables test (v ∷ vs) = ap (λ rest. if_there test (as_table (view v)) && rest) (all_tables test vs)
