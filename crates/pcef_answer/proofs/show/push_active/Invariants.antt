use Rattle.std.specs.Prelude.{codes}
use Rattle.std.proofs.Common.{◌≡◌, ◌++◌, drop, false, map, string_bytes}
use Rattle.serde_json.specs.View.{items_of}
use Rattle.serde_json.specs.Written.{items_text}
use Rattle.pcef_answer.specs.ShowAnswers.{entry_data}
use Rattle.pcef_answer.proofs.show.push_active.Given as goal

abbrev pub invariant-loop-entry : goal.invariant-loop-entry
invariant-loop-entry l =
    string_bytes l.text ++ items_text l.later (items_of (map (entry_data l.listing) (drop l.entry-index l.entries)))
    ≡ string_bytes l.fn.text ++ (codes "{\"active\":[" ++ items_text false (items_of (map (entry_data l.listing) l.entries)))
