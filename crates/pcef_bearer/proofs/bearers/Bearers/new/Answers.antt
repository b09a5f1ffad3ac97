use Rattle.std.proofs.Common.{◌∙◌, Some, ap, arith, sym}
use Rattle.pcef_rule.specs.declared.qci.Kind.{Kind}
use Rattle.pcef_bearer.proofs.BindingKept.{empty_binding}
use Rattle.pcef_bearer.proofs.bearers.Bearers.new.Goals as goal

pub invariant_of-result : goal.invariant_of-result
invariant_of-result c = (
  empty_binding c.args.default_qos c.args.capacity c.args.qcis _
      (sym c.kind_of.ensures ∙ c.in-Some-NonGbr.is ∙ ap (λ (k : Kind). Some k) c.in-Some-NonGbr.field-0-is) c.new.ensures.items,
  omega arith,
  omega arith,
)
