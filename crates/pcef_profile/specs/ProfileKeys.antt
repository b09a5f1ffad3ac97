-- The keys of a profile and of the tables in it (own choice; TOML: v1.0.0).
use Rattle.std.specs.Prelude.{ℕ, List, [], ◌∷◌, codes, Bool, true, ◌&&◌, Option, is_some, option_and_then}
use Rattle.std.specs.List.{list_all}
use Rattle.toml.specs.Data.{Items, no_items, item, Members, no_members, member, get_member, as_array, as_table}
use Rattle.pcef_profile.specs.declared.key.Key.{Key}
use Rattle.pcef_profile.specs.declared.key.Key.TheVariants as key
use Rattle.pcef_base.specs.Readings.{if_there, names_one_of}

-- a key as it stands in a profile
abbrev pub key_text : Key → List ℕ
key_text key.Ue = codes "ue"
key_text key.Rows = codes "rows"
key_text key.Commands = codes "commands"
key_text key.Default = codes "default"
key_text key.Capacity = codes "capacity"
key_text key.Declared = codes "declared"
key_text key.Qci = codes "qci"
key_text key.Level = codes "level"
key_text key.Capability = codes "capability"
key_text key.Vulnerability = codes "vulnerability"
key_text key.Up = codes "up"
key_text key.Down = codes "down"
key_text key.Kind = codes "kind"

-- the keys of each table: all are needed but the array of declared QCIs, and no others may be there
abbrev pub needed_of_profile : List Key
needed_of_profile = key.Ue ∷ key.Rows ∷ key.Commands ∷ key.Default ∷ key.Capacity ∷ []

abbrev pub keys_of_profile : List Key
keys_of_profile = key.Declared ∷ needed_of_profile

abbrev pub keys_of_default : List Key
keys_of_default = key.Qci ∷ key.Level ∷ key.Capability ∷ key.Vulnerability ∷ []

abbrev pub keys_of_capacity : List Key
keys_of_capacity = key.Up ∷ key.Down ∷ []

abbrev pub keys_of_declared : List Key
keys_of_declared = key.Qci ∷ key.Kind ∷ []

abbrev pub keys_known : List Key → Members → Bool
keys_known keys no_members = true
keys_known keys (member text d ms) = names_one_of key_text keys text && keys_known keys ms

abbrev pub keys_there : List Key → Members → Bool
keys_there keys ms = list_all (λ k. is_some (get_member (key_text k) ms)) keys

-- the table at a key. What is absent, or no table, has another fault.
abbrev pub inner_of : Key → Members → Option Members
inner_of name ms = option_and_then as_table (get_member (key_text name) ms)

-- the array at a key, likewise
abbrev pub entries_of : Key → Members → Option Items
entries_of name ms = option_and_then as_array (get_member (key_text name) ms)

-- a test of each entry that is a table; one that is none has another fault
abbrev pub each_table : (Members → Bool) → Items → Bool
each_table test no_items = true
each_table test (item d ds) = if_there test (as_table d) && each_table test ds

abbrev pub has_known_keys : Members → Bool
has_known_keys ms =
    ((keys_known keys_of_profile ms
    && if_there (keys_known keys_of_default) (inner_of key.Default ms))
    && if_there (keys_known keys_of_capacity) (inner_of key.Capacity ms))
    && if_there (each_table (keys_known keys_of_declared)) (entries_of key.Declared ms)

abbrev pub is_whole : Members → Bool
is_whole ms =
    ((keys_there needed_of_profile ms
    && if_there (keys_there keys_of_default) (inner_of key.Default ms))
    && if_there (keys_there keys_of_capacity) (inner_of key.Capacity ms))
    && if_there (each_table (keys_there keys_of_declared)) (entries_of key.Declared ms)
