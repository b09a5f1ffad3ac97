use Rattle.std.proofs.Common.{◌≡◌, ◌∙◌, true, sym, ap, rules}
use Rattle.std.specs.Cmp.Lexicographic.{pointwise, pointwise_decides}
use Rattle.pcef_filter.specs.declared.filter.PortRange.{PortRange}
use Rattle.pcef_filter.specs.contracts.filter.PortRangePartialEq.TheImpl.{eq-value}
use Rattle.pcef_rule.proofs.equal.are_equal_ports.Goals as goal

pub returns : goal.returns
returns c =
    let a = c.args.a.now in
    let b = c.args.b.now in
    let one : (x y : PortRange) → (eq-value.it x y ≡ true → x ≡ y) × (x ≡ y → eq-value.it x y ≡ true) = λ x y. search rules in
    let all : (pointwise eq-value.it a.items b.items ≡ true → a.items ≡ b.items) × (a.items ≡ b.items → pointwise eq-value.it a.items b.items ≡ true) = pointwise_decides one a.items b.items in
    (λ t. ap (λ xs. record { items = xs }) (all.0 (sym c.eq.ensures ∙ t)), λ e. c.eq.ensures ∙ all.1 (ap (λ v. v.items) e))
