use Rattle.std.proofs.Common.{subst, sym}
use Rattle.std.specs.Arc.{arc_value}
use Rattle.pcef_catalog.specs.Catalogs.{offers_of}
use Rattle.pcef_model.specs.ProfileModel.{setting_of}
use Rattle.pcef_run.specs.PlanRuns.{RanOne}
use Rattle.pcef_run.proofs.RunEnds.{none_told, one_told}
use Rattle.pcef_run.proofs.plan_run.run_one.Goals as goal

pub returns-in-Ok : goal.returns-in-Ok
returns-in-Ok g c = one_told _ c.args.plan c.args.workers c.in-Ok.ran c.report_run.result _ _ c.in-Ok.ensures.ran c.report_run.ensures

pub returns-in-Err : goal.returns-in-Err
returns-in-Err g c =
    let p = setting_of c.args.profile (offers_of (arc_value c.args.environment.catalog)) in
    let old = g.W.Write.contents c.args.writer.now in
    subst (λ e. RanOne p c.args.workers c.args.plan e old old) (sym c.run_end.ensures) (none_told p c.args.plan c.args.workers c.in-Err.end old c.in-Err.ensures.fault)
