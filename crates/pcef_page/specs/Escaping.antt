-- How text stands in a page of HTML (own choice; the entities are those of HTML).
use Rattle.std.specs.Prelude.{ℕ, List, [], ◌∷◌, ◌==◌, ◌&&◌, codes, nat_le, if◌then◌else◌}
use Rattle.std.specs.List.{flat_map}

-- an octet that could begin or end a tag, an attribute or an entity has an entity, and one that can't be shown a question mark
abbrev pub escaped_octet : ℕ → List ℕ
escaped_octet b =
    if b == 60 then codes "&lt;" else if b == 62 then codes "&gt;" else if b == 38 then codes "&amp;"
    else if b == 34 then codes "&quot;" else if b == 39 then codes "&#39;"
    else if nat_le 32 b && nat_le b 126 then b ∷ [] else codes "?"

abbrev pub escaped : List ℕ → List ℕ
escaped text = flat_map escaped_octet text
