use Rattle.std.proofs.Common.{rules, tests, ◌∙◌}
use Rattle.std.proofs.lemmas.Iterator.{YieldsList-from_slice}
use Rattle.std.proofs.lemmas.Iterator.Search.{all_from_yields_List}
use Rattle.serde_json.specs.View.{view}
use Rattle.pcef_line.specs.LineTriggers.{is_trigger}
use Rattle.pcef_line.proofs.Objects.{all_items}
use Rattle.pcef_line.proofs.trigger.are_triggers.Goals as goal

pub returns : goal.returns
returns c =
    all_from_yields_List (λ value. is_trigger (view value)) _ _ _ c.all.ensures.ran (YieldsList-from_slice c.args.values.now cc) (λ x b q k. search (rules, tests))
    ∙ all_items is_trigger c.args.values.now
