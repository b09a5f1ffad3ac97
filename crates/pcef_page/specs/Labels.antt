-- The values of labels in OpenMetrics text (version 1.0.0, "ABNF": label values).
use Rattle.std.specs.Prelude.{ℕ, List, ◌==◌, codes, if◌then◌else◌}
use Rattle.std.specs.Char.{encode_utf8}
use Rattle.std.specs.List.{flat_map}
use Rattle.std.specs.Str.{chars}

-- a quotation mark, a backslash and a line feed are escaped
abbrev pub label_character : ℕ → List ℕ
label_character c =
    if c == 34 then codes "\\\"" else if c == 92 then codes "\\\\" else if c == 10 then codes "\\n" else encode_utf8 c

abbrev pub label_of : List ℕ → List ℕ
label_of value = flat_map label_character (chars value)
