-- The lines of a script that stand for packets (docs/FORMATS.md, 'Script lines').
use Rattle.std.specs.Prelude.{ℕ, ◌++◌, List, codes, decimal}
use Rattle.hex.specs.Hex.{encode_lower}
use Rattle.pcef_packet.specs.declared.header.Dir.{Dir}
use Rattle.pcef_packet.specs.declared.header.Dir.TheVariants.{Up, Down}

-- a packet that has a line: its direction and its octets
abbrev pub Item : Type 0
Item = Dir × List ℕ

abbrev pub dir_word : Dir → List ℕ
dir_word Up = codes "up"
dir_word Down = codes "down"

-- {"do":"flush","worker":0}
unfoldable pub flush_line : ℕ → List ℕ
flush_line worker = codes "{\"do\":\"flush\",\"worker\":" ++ (decimal worker ++ codes "}\n")

-- {"do":"take","worker":0,"dir":"up","packet":"45.."}
unfoldable pub take_line : ℕ → Item → List ℕ
take_line worker item =
    codes "{\"do\":\"take\",\"worker\":"
    ++ (decimal worker ++ (codes ",\"dir\":\"" ++ (dir_word item.0 ++ (codes "\",\"packet\":\"" ++ (encode_lower item.1 ++ codes "\"}\n")))))
