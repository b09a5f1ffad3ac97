-- Tests of all members of an object and of all items of a list, as iterators make them.
use Rattle.std.proofs.Common.{◌≡◌, Bool, ◌&&◌, ◌||◌, List, [], ◌∷◌, map, refl, ap}
use Rattle.std.specs.Prelude.{String, string_bytes}
use Rattle.std.specs.declared.alloc.Global.{Global}
use Rattle.std.specs.List.{list_all, list_any}
use Rattle.serde_json.specs.Data.{Data}
use Rattle.serde_json.specs.declared.value.Value.{Value}
use Rattle.serde_json.specs.View.{view, items_view, members_view}
use Rattle.pcef_line.specs.declared.field.Field.{Field}
use Rattle.pcef_line.specs.LineWords.{field_text}
use Rattle.pcef_line.specs.LineShape.{each_item, members_known, some_item}
use Rattle.pcef_base.specs.Readings.{names_one_of}

pub all_members : (fields : List Field) (members : List (String Global × Value)) → list_all (λ key. names_one_of field_text fields (string_bytes key)) (map (λ m. m.0) members) ≡ members_known fields (members_view members)
all_members fields [] = refl
all_members fields (m ∷ ms) = ap (λ rest. names_one_of field_text fields (string_bytes m.0) && rest) (all_members fields ms)

pub all_items : (test : Data → Bool) (values : List Value) → list_all (λ value. test (view value)) values ≡ each_item test (items_view values)
all_items test [] = refl
all_items test (v ∷ vs) = ap (λ rest. test (view v) && rest) (all_items test vs)

pub any_items : (test : Data → Bool) (values : List Value) → list_any (λ value. test (view value)) values ≡ some_item test (items_view values)
any_items test [] = refl
any_items test (v ∷ vs) = ap (λ rest. test (view v) || rest) (any_items test vs)
