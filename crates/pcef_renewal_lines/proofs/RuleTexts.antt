-- A rule's text, part by part.
use Rattle.std.proofs.Common.{◌≡◌, ℕ, List, ◌++◌, refl}
use Rattle.pcef_filter.specs.declared.filter.Filter.{Filter}
use Rattle.pcef_rule.specs.declared.rule.Properties.{Properties}
use Rattle.pcef_rule.specs.Definition.{Definition}
use Rattle.pcef_renewal_lines.specs.Rules.{gate_part, name_part, qos_part, rule_text}

pub rule_is : (rule : Definition) (p : Properties) (filters : List Filter) (name qos gate : List ℕ) → p ≡ rule.properties → filters ≡ rule.filters
    → name ≡ name_part p filters → qos ≡ qos_part p → gate ≡ gate_part p → name ++ (qos ++ gate) ≡ rule_text rule
unfolding rule_text
rule_is rule p filters name qos gate p_is filters_are name_is qos_is gate_is = rw (name_is, qos_is, gate_is, p_is, filters_are) refl
