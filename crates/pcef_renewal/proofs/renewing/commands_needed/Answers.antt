use Rattle.std.proofs.Common.{◌∙◌, ap, subst, sym}
use Rattle.pcef_session.specs.Agreement.{KeysAgree}
use Rattle.pcef_renewal.proofs.Getters.{needed_is}
use Rattle.pcef_renewal.proofs.renewing.commands_needed.Goals as goal

pub returns : goal.returns
returns c =
    let s = c.args.session.now in
    needed_is s.setting s.journal c.states.result.now c.subscribed.result c.bound-bound.result.now c.count_on-keys.result c.count_subscriptions-subscriptions.result
    (subst (KeysAgree s.setting s.journal) (sym c.states.ensures.states) c.usage.ensures) c.subscribed.ensures (c.bound-bound.ensures.bound ∙ ap (λ b. b.bound) c.bearers.ensures)
    c.count_on-keys.ensures.count c.count_subscriptions-subscriptions.ensures
