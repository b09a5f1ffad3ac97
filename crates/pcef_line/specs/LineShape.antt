-- Which fields a line, and the objects in it, may have (own choice).
use Rattle.std.specs.Prelude.{List, Bool, true, false, ◌&&◌, ◌||◌}
use Rattle.serde_json.specs.Data.{Data, Items, no_items, item, Members, no_members, member}
use Rattle.serde_json.specs.Find.{get, as_object, as_array}
use Rattle.pcef_line.specs.declared.field.Field.{Field}
use Rattle.pcef_line.specs.declared.field.Field.TheVariants as field
use Rattle.pcef_line.specs.declared.word.Word.{Word}
use Rattle.pcef_line.specs.declared.word.Word.TheVariants as word
use Rattle.pcef_line.specs.LineWords.{field_text, fields_of, fields_of_rule, fields_of_filter, fields_of_arp, fields_of_gbr}
use Rattle.pcef_base.specs.Readings.{if_there, names_one_of}

-- a test of each item of a list, and of some
abbrev pub each_item : (Data → Bool) → Items → Bool
each_item test no_items = true
each_item test (item d ds) = test d && each_item test ds

abbrev pub some_item : (Data → Bool) → Items → Bool
some_item test no_items = false
some_item test (item d ds) = test d || some_item test ds

-- a test of a field's value
abbrev pub holds_at : Field → (Data → Bool) → Data → Bool
holds_at name test d = if_there test (get (field_text name) d)

abbrev pub members_known : List Field → Members → Bool
members_known fields no_members = true
members_known fields (member key d ms) = names_one_of field_text fields key && members_known fields ms

-- no field beside these. A value that is no object has another fault, which comes later.
abbrev pub has_only : List Field → Data → Bool
has_only fields d = if_there (members_known fields) (as_object d)

abbrev pub items_have_only : List Field → Items → Bool
items_have_only fields = each_item (has_only fields)

-- the same of each item of a list
abbrev pub each_has_only : List Field → Data → Bool
each_has_only fields d = if_there (items_have_only fields) (as_array d)

abbrev pub rule_is_known : Data → Bool
rule_is_known rule =
    ((has_only fields_of_rule rule
    && holds_at field.Filters (each_has_only fields_of_filter) rule)
    && holds_at field.Arp (has_only fields_of_arp) rule)
    && holds_at field.Gbr (has_only fields_of_gbr) rule

abbrev pub inner_is_known : Word → Data → Bool
inner_is_known word.Install d = holds_at field.Rule rule_is_known d
inner_is_known other d = true

abbrev pub is_known : Word → Data → Bool
is_known w d = has_only (fields_of w) d && inner_is_known w d
