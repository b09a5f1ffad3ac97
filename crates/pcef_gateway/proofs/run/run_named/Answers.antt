use Rattle.std.proofs.Common.{sym, subst}
use Rattle.std.specs.Prelude.{IfOk}
use Rattle.pcef_model.specs.Setting.{Setting}
use Rattle.pcef_gateway.specs.Ending.{RunsTo}
use Rattle.pcef_gateway.proofs.run.run_named.Goals as goal

pub returns-in-Ok : goal.returns-in-Ok
returns-in-Ok g c =
    let before = c.args.opening.session.session.journal in
    subst (λ (p : Setting). IfOk c.run_shared.result (λ e. RunsTo p before c.args.load.arrivals.items c.args.load.commands.items c.args.load.workers e)) (sym c.requires.named.setting_is)
    (c.run_shared.ensures before c.in-Ok.ensures.commands)
