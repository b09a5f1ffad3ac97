use Rattle.std.proofs.Common.{◌∙◌, ap, sym}
use Rattle.pcef_renewal.proofs.Loops.{rule_passed, rule_taken}
use Rattle.pcef_renewal.proofs.list.push_rules_on.Goals as goal
use Rattle.pcef_renewal.proofs.list.push_rules_on.Goals.{then-eq+in_ok-push_rule, else-eq}

pub loop-place-preserved : goal.loop-place-preserved
loop-place-preserved c =
    elim c.if-eq.branch [
      | then-eq+in_ok-push_rule w ↦
          rule_taken _ c.args.bound.now c.args.active.now.rules c.loop-place.place c.index-bound-place.result c.loop-place.list.items c.if-eq.list.items _ c.loop-place-test.true
          c.index-bound-place.is c.loop-place.invariant (sym c.eq.ensures ∙ w.if-eq.true) (ap (λ v. v.items) w.list-is ∙ w.in_ok-push_rule.ensures)
      | else-eq w ↦
          rule_passed _ c.args.bound.now c.args.active.now.rules c.loop-place.place c.index-bound-place.result c.loop-place.list.items c.if-eq.list.items _ c.loop-place-test.true
          c.index-bound-place.is c.loop-place.invariant (sym c.eq.ensures ∙ w.if-eq.false) (ap (λ v. v.items) w.list-is)
    ]
