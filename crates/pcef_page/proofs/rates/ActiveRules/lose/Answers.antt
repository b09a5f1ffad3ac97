use Rattle.std.proofs.Common.{rules, ◌∙◌, ap, map}
use Rattle.std.specs.Prelude.{◌==◌, Some, not}
use Rattle.std.proofs.lemmas.Fn.{filter_same}
use Rattle.pcef_page.specs.Guarantees.{without_rules_on}
use Rattle.pcef_page.specs.private.Rules.{rule_of}
use Rattle.pcef_page.proofs.RuleLists.{map_filtered}
use Rattle.pcef_page.proofs.rates.ActiveRules.lose.Goals as goal

pub returns-in-Some : goal.returns-in-Some
returns-in-Some c =
    rw c.in-Some.is (ap (map rule_of) (filter_same _ (λ a. not ((rule_of a).bearer == c.in-Some.bearer)) _ (λ x b f' k. search rules) _ _ c.retain.ensures.filtered)
    ∙ map_filtered (λ r. not (r.bearer == c.in-Some.bearer)) _
    ∙ ap (λ rules. without_rules_on rules (Some c.in-Some.bearer)) c.self.view_is)
