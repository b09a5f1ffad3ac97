use Rattle.std.specs.Prelude.{codes}
use Rattle.std.proofs.Common.{◌≡◌, ◌++◌, drop, false, map, string_bytes}
use Rattle.serde_json.specs.View.{items_of}
use Rattle.serde_json.specs.Written.{items_text}
use Rattle.pcef_answer.specs.ShowAnswers.{state_data}
use Rattle.pcef_answer.proofs.show.push_keys.Given as goal

abbrev pub invariant-loop-state : goal.invariant-loop-state
invariant-loop-state l =
    string_bytes l.text ++ items_text l.later (items_of (map state_data (drop l.state-index l.states)))
    ≡ string_bytes l.fn.text ++ (codes ",\"keys\":[" ++ items_text false (items_of (map state_data l.states)))
