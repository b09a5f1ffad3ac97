use Rattle.std.proofs.Common.{◌≡◌, ◌∙◌, Some, subst, sym}
use Rattle.serde_json.specs.Read.{read}
use Rattle.serde_json.specs.View.{view}
use Rattle.pcef_page.proofs.Exchanges.{data_read, other_none}
use Rattle.pcef_page.proofs.collecting.value_of.Goals as goal

pub returns-in_default : goal.returns-in_default
returns-in_default c = other_none c.args.line.now c.in_default.ensures.cases.0

pub returns-in-Ok-from_str : goal.returns-in-Ok-from_str
returns-in-Ok-from_str c =
    let text = c.in-Ok.ensures.cases in
    sym (data_read c.args.line.now text.1 ∙ subst (λ b. read b ≡ Some (view c.in-Ok-from_str.value)) text.0 c.in-Ok-from_str.ensures.ok)
