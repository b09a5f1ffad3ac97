-- A test of all keys of an object, as an iterator makes it.
use Rattle.std.proofs.Common.{◌≡◌, ℕ, Bool, ◌&&◌, List, [], ◌∷◌, map, refl, ap}
use Rattle.std.specs.Prelude.{String, string_bytes}
use Rattle.std.specs.declared.alloc.Global.{Global}
use Rattle.std.specs.List.{list_all}
use Rattle.serde_json.specs.declared.value.Value.{Value}
use Rattle.serde_json.specs.View.{members_view}
use Rattle.pcef_sessions.specs.Asked.{each_key}

pub all_keys : (test : List ℕ → Bool) (members : List (String Global × Value)) → list_all (λ key. test (string_bytes key)) (map (λ m. m.0) members) ≡ each_key test (members_view members)
all_keys test [] = refl
all_keys test (m ∷ ms) = ap (λ rest. test (string_bytes m.0) && rest) (all_keys test ms)
