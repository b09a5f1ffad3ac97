use Rattle.std.proofs.Common.{◌≡◌, ℕ, List, string_bytes, subst}
use Rattle.std.specs.Prelude.{IfOk}
use Rattle.pcef_renewal_lines.proofs.RuleTexts.{rule_is}
use Rattle.pcef_renewal_lines.proofs.rule.rule_text.Goals as goal

pub returns : goal.returns
returns c =
    let whole =
    rule_is c.args.rule.now c.properties-properties.result.now c.filters.result.now (string_bytes c.in_ok-name.name) (string_bytes c.in_ok-qos.qos) (string_bytes c.in_ok-gate.gate)
    c.properties-properties.ensures c.filters.ensures c.in_ok-name.ensures c.in_ok-qos.ensures c.in_ok-gate.ensures in
    subst (λ (t : List ℕ). IfOk c.format.result (λ text. string_bytes text ≡ t)) whole c.format.ensures.ok
