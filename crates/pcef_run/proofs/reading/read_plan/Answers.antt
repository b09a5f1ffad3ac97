use Rattle.std.proofs.Common.{subst}
use Rattle.std.specs.Prelude.{IfErr, IfOk}
use Rattle.pcef_script.specs.Scripts.{all_lines}
use Rattle.pcef_run.specs.Plans.{ArePlanned, FailsIn}
use Rattle.pcef_run.proofs.PlanInputs.{input_planned}
use Rattle.pcef_run.proofs.reading.read_plan.Goals as goal

pub returns : goal.returns
returns g c =
    let same = c.deref.ensures.value in
    let result = c.plan_of.result in
    input_planned c.args.workers result c.in_ok-input.input.items _ _ c.in_ok-input.ensures.all
    (subst (λ b. IfOk result (λ plan. ArePlanned c.args.workers (all_lines b) plan)) same c.plan_of.ensures.plan)
    (subst (λ b. IfErr result (λ e. FailsIn c.args.workers (all_lines b) e)) same c.plan_of.ensures.fault)
