use Rattle.pcef_renewal.proofs.Loops.{bearer_taken}
use Rattle.pcef_renewal.proofs.list.push_rules_on_each.Goals as goal

pub loop-bearer-preserved : goal.loop-bearer-preserved
loop-bearer-preserved c =
    bearer_taken c.args.bearers.now c.args.bound.now c.args.active.now.rules c.loop-bearer.bearer-index c.loop-bearer.list.items c.push_rules_on.new.list.items _
    c.loop-bearer-test.true c.loop-bearer.invariant c.in_ok-push_rules_on.ensures
