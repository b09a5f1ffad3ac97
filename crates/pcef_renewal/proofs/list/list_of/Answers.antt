use Rattle.std.proofs.Common.{subst, sym}
use Rattle.pcef_session.specs.Agreement.{KeysAgree}
use Rattle.pcef_renewal.proofs.Getters.{whole_list}
use Rattle.pcef_renewal.proofs.list.list_of.Goals as goal

pub returns : goal.returns
returns c =
    let s = c.args.session.now in
    whole_list s.setting s.journal c.states.result.now c.subscribed.result c.is_closed.result (subst (KeysAgree s.setting s.journal) (sym c.states.ensures.states) c.usage.ensures)
    c.subscribed.ensures c.is_closed.ensures
    c.new-list.result.items c.push_monitors.new.list.items c.push_subscription.new.list.items c.push_rules.new.list.items c.push_close.new.list.items c.new-list.ensures.items
    c.in_ok-push_monitors.ensures c.in_ok-push_subscription.ensures c.in_ok-push_rules.ensures c.in_ok-push_close.ensures
