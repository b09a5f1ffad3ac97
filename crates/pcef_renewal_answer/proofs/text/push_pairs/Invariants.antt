use Rattle.std.proofs.Common.{◌≡◌, ◌∷◌, ◌++◌, drop, false, map, string_bytes}
use Rattle.serde_json.specs.View.{items_of}
use Rattle.serde_json.specs.Written.{items_text}
use Rattle.pcef_renewal_answer.specs.Texts.{pair_data}
use Rattle.pcef_renewal_answer.proofs.text.push_pairs.Given as goal

abbrev pub invariant-loop-pair : goal.invariant-loop-pair
invariant-loop-pair l =
    string_bytes l.text ++ items_text l.later (items_of (map pair_data (drop l.pair-index l.pairs)))
    ≡ string_bytes l.fn.text ++ 91 ∷ items_text false (items_of (map pair_data l.fn.pairs))
