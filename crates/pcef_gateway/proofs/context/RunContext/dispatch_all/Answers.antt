use Rattle.std.proofs.Common.{rules, ◌≡◌, ◌<◌, ◌++◌, All, length, refl}
use Rattle.pcef_gateway.specs.declared.arrivals.Arrival.{Arrival}
use Rattle.pcef_gateway.proofs.Commands.{none_given}
use Rattle.pcef_gateway.proofs.Feeding.{led}
use Rattle.pcef_gateway.proofs.context.RunContext.dispatch_all.Goals as goal

pub loop-command-init : goal.loop-command-init
loop-command-init g c = (
  none_given c.args.desk.now.commands _ c.new-answers.ensures.items,
  c.requires.known,
  λ w within. refl,
)

pub loop-command-preserved : goal.loop-command-preserved
loop-command-preserved g c =
    let at = c.loop-command in
    let front = c.split_at.result.0.now in
    let back = c.split_at.result.1.now in
    let split : at.left.now ≡ front ++ back = search rules in
    let many : length c.dispatch.new.rings ≡ length at.rings = search rules in
    let known : All (λ (a : Arrival). a.worker < length c.dispatch.new.rings) back = search rules in (
      c.in_ok-execute_next.ensures c.args.desk.now.commands at.yielded at.invariant.0,
      known,
      led c.args.rings.now at.rings c.dispatch.new.rings c.args.arrivals.now at.left.now front back split many at.invariant.2 c.dispatch.ensures,
    )
