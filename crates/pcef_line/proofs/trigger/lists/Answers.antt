use Rattle.std.proofs.Common.{rules, tests, ◌∙◌}
use Rattle.std.proofs.lemmas.Iterator.{YieldsList-from_slice}
use Rattle.std.proofs.lemmas.Iterator.Search.{any_from_yields_List}
use Rattle.serde_json.specs.View.{view}
use Rattle.pcef_line.specs.LineTriggers.{is_word}
use Rattle.pcef_line.proofs.Objects.{any_items}
use Rattle.pcef_line.proofs.trigger.lists.Goals as goal

pub returns : goal.returns
returns c =
    any_from_yields_List (λ value. is_word (view value) c.args.trigger) _ _ _ c.any.ensures.ran (YieldsList-from_slice c.args.values.now cc) (λ x b q k. search (rules, tests))
    ∙ any_items (λ d. is_word d c.args.trigger) c.args.values.now
