use Rattle.std.proofs.Common.{rules, tests, ◌∙◌}
use Rattle.std.proofs.lemmas.Iterator.{YieldsList-from_slice}
use Rattle.std.proofs.lemmas.Iterator.Search.{all_from_yields_List}
use Rattle.serde_json.specs.View.{view}
use Rattle.pcef_line.specs.LineShape.{has_only}
use Rattle.pcef_line.proofs.Objects.{all_items}
use Rattle.pcef_line.proofs.known.items_have_only.Goals as goal

pub returns : goal.returns
returns c =
    all_from_yields_List (λ value. has_only c.args.fields.now (view value)) _ _ _ c.all.ensures.ran (YieldsList-from_slice c.args.items.now cc) (λ x b q k. search (rules, tests))
    ∙ all_items (has_only c.args.fields.now) c.args.items.now
