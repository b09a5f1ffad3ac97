use Rattle.std.proofs.Common.{◌∙◌, ap}
use Rattle.pcef_renewal.proofs.Getters.{all_again}
use Rattle.pcef_renewal.specs.private.Again.{numbers}
use Rattle.pcef_renewal.proofs.list.push_rules.Goals as goal

pub returns : goal.returns
returns c =
    let s = c.args.session.now in
    all_again s.setting s.journal c.bound-bound.result.now c.active-active.result.now.rules (numbers c.deref.result.now)
    (c.bound-bound.ensures.bound ∙ ap (λ b. b.bound) c.bearers.ensures) c.active-active.ensures (ap numbers c.deref.ensures.value ∙ c.in_ok-others.ensures)
    c.args.list.now.items c.push_rules_on.new.list.items c.push_rules_on_each.new.list.items c.in_ok-push_rules_on.ensures c.in_ok-push_rules_on_each.ensures
