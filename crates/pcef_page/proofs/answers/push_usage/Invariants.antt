use Rattle.std.proofs.Common.{◌≡◌, ◌++◌, take}
use Rattle.std.specs.Prelude.{map}
use Rattle.std.specs.List.{flat_map}
use Rattle.serde_json.specs.View.{view}
use Rattle.pcef_page.specs.Usages.{usage_of_report, usage_figure_of}
use Rattle.pcef_page.proofs.answers.push_usage.Given as goal

abbrev pub invariant-loop-report : goal.invariant-loop-report
invariant-loop-report l = map usage_figure_of l.usage.items ≡ map usage_figure_of l.fn.usage.items ++ flat_map (usage_of_report l.fn.line) (map view (take l.report-index l.report-items))
