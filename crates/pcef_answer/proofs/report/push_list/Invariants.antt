use Rattle.std.proofs.Common.{◌≡◌, ◌∷◌, ◌++◌, false, map, string_bytes}
use Rattle.serde_json.specs.View.{items_of}
use Rattle.serde_json.specs.Written.{items_text}
use Rattle.pcef_answer.specs.ReportAnswers.{report_data}
use Rattle.pcef_answer.proofs.report.push_list.Given as goal

abbrev pub invariant-loop-report : goal.invariant-loop-report
invariant-loop-report l =
    string_bytes l.text ++ items_text l.later (items_of (map report_data l.report-iterator))
    ≡ string_bytes l.fn.text ++ 91 ∷ items_text false (items_of (map report_data l.fn.reports))
