use Rattle.pcef_run.proofs.RunEnds.{no_plan_told, plan_told}
use Rattle.pcef_run.proofs.plan_run.run_input.Goals as goal

pub returns-in-Ok : goal.returns-in-Ok
returns-in-Ok g c = plan_told _ c.in-Ok.plan c.args.workers c.run_one.result _ _ _ _ c.in-Ok.ensures c.run_one.ensures

pub returns-in-Err : goal.returns-in-Err
returns-in-Err g c = no_plan_told _ c.args.workers c.in-Err.fault c.plan_end.result _ _ _ c.in-Err.ensures c.plan_end.ensures
