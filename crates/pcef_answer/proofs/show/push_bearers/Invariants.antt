use Rattle.std.specs.Prelude.{codes}
use Rattle.std.proofs.Common.{◌≡◌, ◌++◌, drop, false, string_bytes}
use Rattle.pcef_answer.proofs.Showing.{bearers_text}
use Rattle.pcef_answer.proofs.show.push_bearers.Given as goal

abbrev pub invariant-loop-id : goal.invariant-loop-id
invariant-loop-id l =
    string_bytes l.text ++ bearers_text l.bearers.bound l.later (drop l.id-index l.ids)
    ≡ string_bytes l.fn.text ++ (codes ",\"bearers\":[" ++ bearers_text l.bearers.bound false l.ids)
