use Rattle.std.proofs.Common.{◌∙◌, ◌++◌, ap, arith, sym}
use Rattle.std.proofs.lemmas.List.{take_all}
use Rattle.std.specs.Prelude.{map}
use Rattle.std.specs.List.{flat_map}
use Rattle.serde_json.specs.View.{view}
use Rattle.pcef_page.specs.Usages.{usage_of_report, usages_of_all, usage_figure_of}
use Rattle.pcef_page.proofs.UsageLists.{told_flat}
use Rattle.pcef_page.proofs.answers.push_usage.Goals as goal

pub returns : goal.returns
returns c =
    let list = c.list_at-report-items in
    let reports = list.result.now in
    c.loop-report.invariant
    ∙ ap (λ t. map usage_figure_of c.args.usage.now.items ++ t)
    (ap (λ xs. flat_map (usage_of_report c.args.line) (map view xs)) (take_all c.loop-report.report-index reports (omega (arith, c.loop-report-test.false)))
    ∙ sym (told_flat c.args.line (map view reports)) ∙ ap (usages_of_all c.args.line) list.ensures)
