use Rattle.std.proofs.Common.{rules, ◌∙◌, ap, map}
use Rattle.std.specs.Prelude.{not}
use Rattle.std.specs.Str.{bytes_eq}
use Rattle.std.proofs.lemmas.Fn.{filter_same}
use Rattle.pcef_page.specs.Guarantees.{without_rule}
use Rattle.pcef_page.specs.private.Rules.{rule_of}
use Rattle.pcef_page.proofs.RuleLists.{map_filtered}
use Rattle.pcef_page.proofs.rates.ActiveRules.forget.Goals as goal

pub returns : goal.returns
returns c =
    ap (map rule_of) (filter_same _ (λ a. not (bytes_eq (rule_of a).name c.args.name.now)) _ (λ x b f' k. search rules) _ _ c.retain.ensures.filtered)
    ∙ map_filtered (λ r. not (bytes_eq r.name c.args.name.now)) _
    ∙ ap (without_rule c.args.name.now) c.self.view_is
