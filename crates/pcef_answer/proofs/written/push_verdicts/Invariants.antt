use Rattle.std.proofs.Common.{◌≡◌, ◌∷◌, ◌++◌, drop, false, map, string_bytes}
use Rattle.serde_json.specs.View.{items_of}
use Rattle.serde_json.specs.Written.{items_text}
use Rattle.pcef_answer.specs.StepAnswers.{judged_data}
use Rattle.pcef_answer.proofs.written.push_verdicts.Given as goal

abbrev pub invariant-loop-judged : goal.invariant-loop-judged
invariant-loop-judged l =
    string_bytes l.text ++ items_text l.later (items_of (map judged_data (drop l.judged-index l.rows)))
    ≡ string_bytes l.fn.text ++ 91 ∷ items_text false (items_of (map judged_data l.rows))
