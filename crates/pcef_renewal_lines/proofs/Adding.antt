-- The line of one more command.
use Rattle.std.proofs.Common.{◌≡◌, ◌∙◌, ◌<◌, ◌+◌, ℕ, List, [], ◌∷◌, ◌++◌, ap, append_assoc, get_or, length, map, string_bytes, sym, take}
use Rattle.std.specs.Prelude.{String}
use Rattle.std.specs.declared.alloc.Global.{Global}
use Rattle.std.proofs.lemmas.List.{map-append, take_more}
use Rattle.pcef_model.specs.declared.command.Command.{Command}
use Rattle.pcef_renewal_lines.specs.Commands.{line_text}

pub added : (list : List Command) (i : ℕ) (c : Command) (old now new : List (String Global)) (line : String Global) → i < length list → c ≡ get_or list i c
    → new ≡ now ++ line ∷ [] → string_bytes line ≡ line_text c → map string_bytes now ≡ map string_bytes old ++ map line_text (take i list)
    → map string_bytes new ≡ map string_bytes old ++ map line_text (take (i + 1) list)
added list i c old now new line lt is pushed text before =
    let next : map line_text (take (i + 1) list) ≡ map line_text (take i list) ++ line_text c ∷ [] =
    ap (map line_text) (take_more list i c lt ∙ ap (λ d. take i list ++ d ∷ []) (sym is)) ∙ map-append line_text (take i list) (c ∷ []) in
    ap (map string_bytes) pushed ∙ map-append string_bytes now (line ∷ []) ∙ ap (λ ts. ts ++ string_bytes line ∷ []) before
    ∙ ap (λ t. (map string_bytes old ++ map line_text (take i list)) ++ t ∷ []) text
    ∙ append_assoc (map string_bytes old) (map line_text (take i list)) (line_text c ∷ []) ∙ ap (λ ts. map string_bytes old ++ ts) (sym next)
