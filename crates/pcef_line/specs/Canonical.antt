-- The canonical spelling of a line of `take`: no space, the fields in this order, nothing escaped.
use Rattle.std.specs.Prelude.{◌++◌, ◌∷◌, ℕ, List, codes}
use Rattle.std.specs.Fmt.{decimal}
use Rattle.pcef_packet.specs.declared.header.Dir.{Dir}
use Rattle.pcef_packet.specs.declared.header.Dir.TheVariants.{Up, Down}

-- what stands between the worker and the packet's text
abbrev pub dir_part : Dir → List ℕ
dir_part Up = codes "\"dir\":\"up\",\"packet\":\""
dir_part Down = codes "\"dir\":\"down\",\"packet\":\""

abbrev pub take_text : ℕ → Dir → List ℕ → List ℕ
take_text worker dir packet = codes "{\"do\":\"take\",\"worker\":" ++ (decimal worker ++ 44 ∷ (dir_part dir ++ (packet ++ codes "\"}")))

-- the words `flush` and `refresh` have the worker alone
abbrev pub step_text : List ℕ → ℕ → List ℕ
step_text word worker = codes "{\"do\":\"" ++ (word ++ (codes "\",\"worker\":" ++ (decimal worker ++ codes "}")))
